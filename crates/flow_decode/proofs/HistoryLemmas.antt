-- What is known behind one more datagram.
use Rattle.std.proofs.Common.{◌≡◌, ◌∙◌, ◌++◌, ◌∷◌, [], ℕ, List, Result, Ok, Err, refl, sym, ap, append_assoc, reverse}
use Rattle.std.proofs.lemmas.List.{reverse-append}
use Rattle.flow_templates.specs.declared.change.TemplateChange.{TemplateChange}
use Rattle.flow_templates.specs.declared.rate.LearnedRate.{LearnedRate}
use Rattle.flow_templates.specs.declared.rate.RateKey.{RateKey}
use Rattle.flow_templates.specs.declared.template.TemplateKey.{TemplateKey}
use Rattle.flow_templates.specs.declared.refusal.Cause.{Cause}
use Rattle.flow_templates.specs.Changes.{StagedChanges, after, after_all}
use Rattle.config_keys.specs.declared.tool.Tool.{Tool}
use Rattle.flow_templates.specs.Decoding.{Said}
use Rattle.flow_templates.specs.Known.{Known, known_after, rate_after}
use Rattle.flow_decode.specs.Answers.{known_behind}
use Rattle.acct_types.specs.declared.datagram.Datagram.{Datagram}
use Rattle.flow_decode.specs.Datagrams.{decoded}
use Rattle.flow_decode.specs.History.{Told, in_force, known_by, learned_last, told_more}

pub backwards : (changes earlier : List TemplateChange) (key : TemplateKey) → in_force (reverse changes ++ earlier) key ≡ after_all changes key (in_force earlier key)
backwards [] earlier key = refl
backwards (change ∷ changes) earlier key =
    ap (λ (all : List TemplateChange). in_force (all ++ earlier) key) (reverse-append (change ∷ []) changes)
    ∙ ap (λ (all : List TemplateChange). in_force all key) (append_assoc (reverse changes) (change ∷ []) earlier)
    ∙ backwards changes (change ∷ earlier) key

pub rates_backwards : (rates earlier : List LearnedRate) (key : RateKey) → learned_last (reverse rates ++ earlier) key ≡ rate_after rates key (learned_last earlier key)
rates_backwards [] earlier key = refl
rates_backwards (learned ∷ rates) earlier key =
    ap (λ (all : List LearnedRate). learned_last (all ++ earlier) key) (reverse-append (learned ∷ []) rates)
    ∙ ap (λ (all : List LearnedRate). learned_last all key) (append_assoc (reverse rates) (learned ∷ []) earlier)
    ∙ rates_backwards rates (learned ∷ earlier) key

same_known : (a b : Known) → ((key : TemplateKey) → a.template key ≡ b.template key) → ((key : RateKey) → a.rate key ≡ b.rate key) → a ≡ b
same_known a b templates rates = λ i. record { template = λ key. templates key i; rate = λ key. rates key i }

-- what the parts of a datagram teach comes before what was told
pub parts_come_first : (told : Told) (changes : StagedChanges) → known_after (known_by told) changes
    ≡ known_by (record { templates = reverse changes.templates ++ told.templates; rates = reverse changes.rates ++ told.rates })
parts_come_first told changes = same_known _ _ (λ key. sym (backwards changes.templates told.templates key)) (λ key. sym (rates_backwards changes.rates told.rates key))

-- what is known behind one more datagram is what all told
pub one_more : (told : Told) (said : Result Said Cause) → known_behind (known_by told) said ≡ known_by (told_more told said)
one_more told (Ok said) = parts_come_first told said.changes
one_more told (Err cause) = refl

-- what is known where an accepted datagram's changes were made
pub accepted : (known next : Known) (answer : Result Said Cause) (said : Said) → answer ≡ Ok said → next ≡ known_after known said.changes → next ≡ known_behind known answer
accepted known next answer said is made = made ∙ sym (ap (known_behind known) is)

-- what is known behind one more datagram is what all told
pub still_knows : (tool : Tool) (known next : Known) (told : Told) (d : Datagram) → known ≡ known_by told → next ≡ known_behind known (decoded tool known d)
    → next ≡ known_by (told_more told (decoded tool (known_by told) d))
still_knows tool known next told d knows learned =
    learned ∙ ap (λ (k : Known). known_behind k (decoded tool k d)) knows ∙ one_more told (decoded tool (known_by told) d)
