-- Rules that tag records.
use Rattle.std.specs.Prelude.{ℕ, ◌+◌, ◌-◌, ◌==◌, ◌&&◌, ◌||◌, Bool, List, position, codes, Option, Some, None, option_and_then, is_some, unwrap_or, Result, Ok, Err, if◌then◌else◌}
use Rattle.std.specs.List.{slice_get}
use Rattle.config_keys.specs.Lines.{Text}
use Rattle.pretag_map.specs.Conditions.{covers_if, equals_if}
use Rattle.pretag_map.specs.Judging.{line_members}
use Rattle.pretag_map.specs.Keys.{any_number, tag_keys}
use Rattle.pretag_map.specs.Members.{Member}
use Rattle.pretag_map.specs.Networks.{Network}
use Rattle.pretag_map.specs.Rules.{rules_of}
use Rattle.pretag_map.specs.Values.{label_given, network_given, number_given}
use Rattle.pretag_map.specs.declared.facts.TagFacts.{TagFacts}
use Rattle.pretag_map.specs.declared.facts.Tags.{Tags}
use Rattle.pretag_map.specs.declared.fault.MapCause.{MapCause}
use Rattle.pretag_map.specs.declared.fault.MapCause.TheVariants.{NoAction}
use Rattle.pretag_map.specs.declared.fault.MapFault.{MapFault}

-- the conditions that a line gives, and what it does
pub record TagRule : Type 0 where
  pub exporter : Option Network
  pub src_net : Option Network
  pub dst_net : Option Network
  pub in_iface : Option ℕ
  pub out_iface : Option ℕ
  pub source_id : Option ℕ
  pub src_as : Option ℕ
  pub dst_as : Option ℕ
  pub tag : Option ℕ
  pub tag2 : Option ℕ
  pub label : Option Text

-- ---- what a map says

abbrev pub tag_rule : List Member → TagRule
tag_rule members = record {
  exporter = network_given members (codes "ip");
  src_net = network_given members (codes "src_net");
  dst_net = network_given members (codes "dst_net");
  in_iface = number_given any_number members (codes "in");
  out_iface = number_given any_number members (codes "out");
  source_id = number_given any_number members (codes "source_id");
  src_as = number_given any_number members (codes "src_as");
  dst_as = number_given any_number members (codes "dst_as");
  tag = number_given any_number members (codes "set_tag");
  tag2 = number_given any_number members (codes "set_tag2");
  label = label_given members (codes "set_label");
}

abbrev pub has_action : TagRule → Bool
has_action rule = is_some rule.tag || is_some rule.tag2 || is_some rule.label

abbrev pub with_action : TagRule → Result TagRule MapCause
with_action rule = if has_action rule then Ok rule else Err NoAction

abbrev pub tag_rule_if : Result (List Member) MapCause → Result TagRule MapCause
tag_rule_if (Err cause) = Err cause
tag_rule_if (Ok members) = with_action (tag_rule members)

-- the rule of a line, or its first cause
abbrev pub tag_line : Text → Result TagRule MapCause
tag_line line = tag_rule_if (line_members tag_keys line)

abbrev pub tag_map_of : Text → Result (List TagRule) MapFault
tag_map_of text = rules_of tag_line text

-- ---- what a record is tagged with

-- all conditions of the rule hold
abbrev pub holds : TagFacts → TagRule → Bool
holds facts rule =
    covers_if rule.exporter facts.exporter
    && covers_if rule.src_net facts.src
    && covers_if rule.dst_net facts.dst
    && equals_if rule.in_iface facts.in_iface
    && equals_if rule.out_iface facts.out_iface
    && equals_if rule.source_id facts.source_id
    && equals_if rule.src_as facts.src_as
    && equals_if rule.dst_as facts.dst_as

abbrev pub no_tags : Tags
no_tags = record { tag = 0; tag2 = 0; label = None }

-- what a rule gives, which has this number
abbrev pub gives : ℕ → TagRule → Tags
gives number rule = record {
  tag = unwrap_or rule.tag 0;
  tag2 = unwrap_or rule.tag2 0;
  label = if is_some rule.label then Some number else None;
}

abbrev pub given_by : ℕ → Option TagRule → Tags
given_by number None = no_tags
given_by number (Some rule) = gives number rule

abbrev pub given_at : List TagRule → Option ℕ → Tags
given_at rules None = no_tags
given_at rules (Some place) = given_by (place + 1) (slice_get rules place)

-- What the first rule gives of which all conditions hold: an action that is absent gives 0 or no label. Rules are
-- numbered from 1.
abbrev pub tags_of : List TagRule → TagFacts → Tags
tags_of rules facts = given_at rules (position (holds facts) rules)

-- the label of the rule with this number
abbrev pub label_at : List TagRule → ℕ → Option Text
label_at rules number = if number == 0 then None else option_and_then (λ rule. rule.label) (slice_get rules (number - 1))
