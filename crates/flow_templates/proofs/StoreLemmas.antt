-- What is kept stays what accepted records define.
use Rattle.std.proofs.Common.{◌≡◌, ◌∷◌, [], List, Result, Ok, Err, length, arith, refl}
use Rattle.std.specs.Prelude.{IsOk, OnOk}
use Rattle.flow_templates.specs.declared.change.TemplateChange.{TemplateChange}
use Rattle.flow_templates.specs.Changes.{AreDefined, Changes, ChangesAll, Entries, found, PutDefined, PutsDefined}
use Rattle.flow_templates.proofs.ChangeLemmas.{defined_after, defined_after_all}

pub stays_defined : (old new : Entries) (change : TemplateChange) → PutsDefined change → Changes old new change → AreDefined old → AreDefined new
stays_defined old new change ok changed defined key = rw (changed key) (defined_after change key (found old key) ok (defined key))

pub all_stay_defined : (old new : Entries) (changes : List TemplateChange) → PutDefined changes → ChangesAll old new changes → AreDefined old → AreDefined new
all_stay_defined old new changes ok changed defined key = rw (changed key) (defined_after_all changes key (found old key) ok (defined key))

pub on_ok : {A E : Type 0} (result : Result A E) (P : Type 0) → IsOk result → OnOk result P → P
on_ok (Ok a) P ok h = h
on_ok (Err e) P ok h = cc ok

pub no_more : (changes : List TemplateChange) → length changes ≡ 0 → changes ≡ []
no_more [] h = refl
no_more (change ∷ changes) h = absurd (omega (arith, h))
