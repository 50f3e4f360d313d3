-- Fields, methods, properties and events are what their rows give (ECMA-335 II.22.13, II.22.15, II.22.26, II.22.34).
use Rattle.std.specs.List.{AllZip}
use Rattle.image_members.specs.Places.{all_fields, all_methods, class_properties, class_events}
use Rattle.image_model.specs.Reading.{IsField, IsMethod, IsProperty, IsEvent}
use Rattle.image_model.specs.Rows.{properties_of, events_of}
use Rattle.laws_image_parts.specs.AtRows.{AtEach}
use Rattle.laws_image_reading.specs.parts.Held.{WhereHeld}

-- ---- laws

abbrev pub FieldsAreNamed : Type 0
FieldsAreNamed = WhereHeld (λ a classes image names. AtEach (IsField image names) 1 (all_fields a classes))

abbrev pub MethodsAreNamed : Type 0
MethodsAreNamed = WhereHeld (λ a classes image names. AtEach (IsMethod image names) 1 (all_methods a classes))

-- those of each type
abbrev pub PropertiesAreNamed : Type 0
PropertiesAreNamed =
    WhereHeld (λ a classes image names. AtEach (λ type c. AllZip (IsProperty image names type) (properties_of image type) (class_properties c)) 2 classes)

abbrev pub EventsAreNamed : Type 0
EventsAreNamed =
    WhereHeld (λ a classes image names. AtEach (λ type c. AllZip (IsEvent image names type) (events_of image type) (class_events c)) 2 classes)
