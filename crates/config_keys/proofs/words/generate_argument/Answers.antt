use Rattle.std.proofs.Common.{rules, ◌≡◌, ◌∙◌, ap, ap₂, codes, pos}
use Rattle.std.specs.Prelude.{Some, Option}
use Rattle.clap.specs.Words.{Rule, new_rule, rule_of}
use Rattle.clap.specs.declared.builder.value_parser.ValueParser.TheVariants as parser
use Rattle.clap.specs.declared.builder.value_parser.ValueParser.{ValueParser}
use Rattle.clap.specs.declared.builder.ArgAction.TheVariants.{Set}
use Rattle.config_keys.proofs.words.generate_argument.Goals as goal

pub returns-clause-rule : goal.returns-clause-rule
returns-clause-rule c =
    let made : c.range.result ≡ parser.Signed (pos 1) (pos 100000) = rw (c.value_parser.ensures, c.new-2.ensures.start, c.new-2.ensures.end) at c.range.ensures in
    let given = c.value_parser-2.ensures.given in
    let plain : Rule = record (new_rule (codes "generate")) { long = Some (codes "generate"); action = Some Set } in
    let before : rule_of c.action.result ≡ plain = search rules in
    let parsed : c.value_parser-2.result.value_parser ≡ Some (parser.Signed (pos 1) (pos 100000)) = given.1 ∙ ap Some (given.2 ∙ made) in
    ap rule_of c.value_parser-2.ensures.others ∙ ap₂ (λ (r : Rule) (q : Option ValueParser). record r { parser = q }) before parsed
