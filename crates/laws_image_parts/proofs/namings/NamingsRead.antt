-- All tokens of an image that holds an assembly name what they were given to.
use Rattle.laws_image_parts.specs.names.Locals.{LocalsAreRead}
use Rattle.laws_image_parts.specs.names.Owners.{OwnersAreRead}
use Rattle.laws_image_parts.specs.namings.Members.{FieldsAreRead, MethodsAreRead}
use Rattle.laws_image_parts.specs.namings.Namings.{NamingsAreRead}
use Rattle.laws_image_parts.specs.namings.Texts.{TextsAreRead}

pub namings_read : OwnersAreRead → LocalsAreRead → TextsAreRead → FieldsAreRead → MethodsAreRead → NamingsAreRead
namings_read owners_read locals_read texts_read fields_read methods_read a classes r tables code image w readable =
    let o = owners_read a classes r tables code image w readable.specs in
    let l = locals_read a classes r tables code image w readable.locals o in
    let t = texts_read a classes r tables code image w readable.texts in
    let f = fields_read a classes r tables code image w readable.members o in
    let m = methods_read a classes r tables code image w readable.members o in
    record {
      names = record { owners = o.owners; methods = m.methods; fields = f.fields; locals = l.locals; texts = t.texts };
      tells = record { owners = o.tells; methods = m.tells; fields = f.tells; locals = l.tells; texts = t.tells };
      back = record {
        owners = o.back;
        methods = m.back;
        fields = f.back;
        locals = l.back;
        texts = t.back;
        of_field = m.no_field;
        of_type = λ o token at. (m.no_type o token at, f.no_type o token at);
      };
    }
