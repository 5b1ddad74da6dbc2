-- The values of settings fit their keys.
use Rattle.std.proofs.Common.{◌≡◌, ◌∙◌, ◌&&◌, ◌+◌, ◌++◌, ap, ap₂, ℕ, Bool, true, false, List, [], ◌∷◌, Option, Some, None, Ok, refl, subst}
use Rattle.std.specs.Prelude.{if◌then◌else◌, is_none}
use Rattle.std.proofs.lemmas.List.Folds.{list_all-append}
use Rattle.config_keys.specs.Judging.{all_fit, is_repeated, key_cause, line_cause, said_by, settings_from, unless_caused, value_fits}
use Rattle.config_keys.specs.Lines.{Text, Setting, Statement, Nothing, NoColon, NoLabel, Says, is_text, statement_of}
use Rattle.config_keys.specs.Table.{KeyRow, row_of}
use Rattle.config_keys.specs.Values.{NamedPlugin, value_cause}
use Rattle.config_keys.specs.declared.fault.ConfigCause.{ConfigCause}
use Rattle.config_keys.specs.declared.fault.ConfigCause.TheVariants.{NotText, NotInProfile, Repeated, UnknownPlugin}

last_cause : (a b c : Bool) (cause : Option ConfigCause) → (if a then Some NotInProfile else (if b then Some Repeated else (if c then Some UnknownPlugin else cause))) ≡ None → cause ≡ None
last_cause true b c cause h = cc h
last_cause false true c cause h = cc h
last_cause false false true cause h = cc h
last_cause false false false cause h = h

-- a line without a cause says settings that fit
one_line : (plugins : Option (List NamedPlugin)) (repeated : Bool) (line : Text) (said : Statement) → line_cause plugins repeated line said ≡ None → all_fit (said_by said) ≡ true
one_line plugins repeated line Nothing h = refl
one_line plugins repeated line NoColon h = refl
one_line plugins repeated line NoLabel h = refl
one_line plugins repeated line (Says setting) h = by (is_text line) (row_of setting.key) refl h
  where
    by : (text : Bool) (row : Option KeyRow) → row_of setting.key ≡ row → (if text then key_cause plugins repeated setting row else Some NotText) ≡ None → all_fit (setting ∷ []) ≡ true
    by false row e h = cc h
    by true None e h = cc h
    by true (Some row) e h =
        let good : value_cause row.kind setting.value ≡ None = last_cause _ repeated _ _ h in
        ap (λ (o : Option KeyRow). value_fits o setting.value && true) e ∙ ap (λ (o : Option ConfigCause). is_none o && true) good

pub settings_fit : (plugins : Option (List NamedPlugin)) (lines : List Text) (number : ℕ) (before settings : List Setting) → all_fit before ≡ true
    → settings_from plugins number before lines ≡ Ok settings → all_fit settings ≡ true
settings_fit plugins [] number before settings good h = let same : before ≡ settings = cc h in subst (λ (l : List Setting). all_fit l ≡ true) same good
settings_fit plugins (line ∷ lines) number before settings good h =
    by (λ more g r. settings_fit plugins lines (number + 1) more settings g r) (line_cause plugins (is_repeated before (statement_of line)) line (statement_of line)) refl h
  where
    by : ((more : List Setting) → all_fit more ≡ true → settings_from plugins (number + 1) more lines ≡ Ok settings → all_fit settings ≡ true)
        → (cause : Option ConfigCause) → line_cause plugins (is_repeated before (statement_of line)) line (statement_of line) ≡ cause
        → unless_caused number cause (settings_from plugins (number + 1) (before ++ said_by (statement_of line)) lines) ≡ Ok settings → all_fit settings ≡ true
    by next (Some cause) e h = cc h
    by next None e h =
        next (before ++ said_by (statement_of line))
        (list_all-append (λ (s : Setting). value_fits (row_of s.key) s.value) before (said_by (statement_of line)) ∙ ap₂ ◌&&◌ good (one_line plugins (is_repeated before (statement_of line)) line (statement_of line) e))
        h
