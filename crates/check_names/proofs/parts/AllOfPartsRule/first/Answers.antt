use Rattle.std.proofs.Common.{◌≡◌, ◌∙◌, ap, arith, sym}
use Rattle.ilasm_grammar.specs.declared.productions.TheConstants.{CLASS, DEF_ARGS, METHOD}
use Rattle.check_names.specs.Asked.{is_asked}
use Rattle.check_names.proofs.AskedLemmas.{class_asked, method_asked, nothing_asked, parameters_asked}
use Rattle.check_names.proofs.parts.AllOfPartsRule.first.Goals as goal

pub returns-then-is_named : goal.returns-then-is_named
returns-then-is_named c s n r node derived =
    c.first_named.ensures s n r node.production-is node.below-is derived.fits derived.bodies (sym c.is_named.ensures ∙ c.if-is_named.true)

pub returns-then-production-eq-METHOD : goal.returns-then-production-eq-METHOD
returns-then-production-eq-METHOD c s n r node derived =
    let types = c.args.self.now.types in
    let own : c.args.production ≡ METHOD = grind arith in
    method_asked s n types.scopes.keys.now types.scopes.own.now types.classes.now c.args.self.now.labels.names.now (node.production-is ∙ own)

pub returns-then-production-eq-CLASS : goal.returns-then-production-eq-CLASS
returns-then-production-eq-CLASS c s n r node derived =
    let types = c.args.self.now.types in
    let own : c.args.production ≡ CLASS = grind arith in
    c.deep_class.ensures n node
    ∙ class_asked s n types.scopes.keys.now types.scopes.own.now types.classes.now c.args.self.now.labels.names.now (node.production-is ∙ own)

pub returns-then-production-eq-DEF_ARGS : goal.returns-then-production-eq-DEF_ARGS
returns-then-production-eq-DEF_ARGS c s n r node derived =
    let types = c.args.self.now.types in
    let own : c.args.production ≡ DEF_ARGS = grind arith in
    c.argument_past_most.ensures n node.production-is node.below-is
    ∙ parameters_asked s n types.scopes.keys.now types.scopes.own.now types.classes.now c.args.self.now.labels.names.now (node.production-is ∙ own)

pub returns-then-not-is_asked : goal.returns-then-not-is_asked
returns-then-not-is_asked c s n r node derived =
    let types = c.args.self.now.types in
    nothing_asked s n types.scopes.keys.now types.scopes.own.now types.classes.now c.args.self.now.labels.names.now
    (ap is_asked node.production-is ∙ sym c.is_asked.ensures ∙ c.if-not-is_asked.true)

pub returns : goal.returns
returns c s n r node derived = c.first_asked.ensures s n r node derived
