use Rattle.std.proofs.Common.{◌≡◌, ◌∙◌, ap, sym, codes, map, string_bytes, inl, inr, pos}
use Rattle.clap.specs.Words.{App, IsSignedIn, app_of, fault_of, first_of, found_of, is_simple, is_simple_and_free, matches_of}
use Rattle.clap.proofs.SimpleLemmas.{plain_fields}
use Rattle.clap.proofs.WalkLemmas.{first_value-rows}
use Rattle.config_keys.specs.Usage.{usage}
use Rattle.config_keys.proofs.UsageLemmas.{is_exact, has_rows, if_some, in_range, known, only_memory}
use Rattle.config_keys.proofs.words.read_options.Goals as goal

pub returns-in-Ok-try_get_matches_from_mut-clause-taken : goal.returns-in-Ok-try_get_matches_from_mut-clause-taken
returns-in-Ok-try_get_matches_from_mut-clause-taken c =
    let app : app_of c.in-Ok.command ≡ usage c.args.tool = c.in-Ok.ensures in
    ap (λ (a : App). fault_of a (map string_bytes c.args.words.now)) (sym app) ∙ c.in-Ok-try_get_matches_from_mut.ensures.kinds (ap is_simple_and_free app ∙ is_exact c.args.tool)

pub returns-in-Ok-try_get_matches_from_mut-clause-file : goal.returns-in-Ok-try_get_matches_from_mut-clause-file
returns-in-Ok-try_get_matches_from_mut-clause-file c =
    let app : app_of c.in-Ok.command ≡ usage c.args.tool = c.in-Ok.ensures in
    let rows = (c.in-Ok-try_get_matches_from_mut.ensures.ok.2 (ap is_simple app ∙ has_rows c.args.tool)).0 in
    c.get_str.ensures ∙ first_value-rows (found_of c.in-Ok-try_get_matches_from_mut.matches) (codes "file") ∙ ap (first_of (codes "file")) (rows ∙ ap (λ (a : App). matches_of a (map string_bytes c.args.words.now)) app)

pub returns-in-Ok-try_get_matches_from_mut-clause-number : goal.returns-in-Ok-try_get_matches_from_mut-clause-number
returns-in-Ok-try_get_matches_from_mut-clause-number c =
    let app : app_of c.in-Ok.command ≡ usage c.args.tool = c.in-Ok.ensures in
    let rows = (c.in-Ok-try_get_matches_from_mut.ensures.ok.2 (ap is_simple app ∙ has_rows c.args.tool)).0 in
    c.get_str-in-Ok-try_get_matches_from_mut.ensures ∙ first_value-rows (found_of c.in-Ok-try_get_matches_from_mut.matches) (codes "generate") ∙ ap (first_of (codes "generate")) (rows ∙ ap (λ (a : App). matches_of a (map string_bytes c.args.words.now)) app)

pub returns : goal.returns
returns c =
    let app : app_of c.in-Ok.command ≡ usage c.args.tool = c.in-Ok.ensures in
    record {
      taken = tt;
      file = tt;
      number = tt;
      range = tt;
      faults = tt;
      refused = λ _ none.
          let kinds = c.in-Err.ensures.kinds (ap is_simple_and_free app ∙ is_exact c.args.tool) in
          let memory = only_memory _ c.in-Err.e kinds (ap (λ (a : App). fault_of a (map string_bytes c.args.words.now)) app ∙ none) in
          c.in_default-kind.not-OutOfMemory (c.kind.ensures ∙ memory);
    }

pub returns-in-Ok-try_get_matches_from_mut-clause-range : goal.returns-in-Ok-try_get_matches_from_mut-clause-range
returns-in-Ok-try_get_matches_from_mut-clause-range c =
    let app : app_of c.in-Ok.command ≡ usage c.args.tool = c.in-Ok.ensures in
    let e = c.in-Ok-try_get_matches_from_mut.ensures in
    let new = c.try_get_matches_from_mut.new.self in
    elim e.after [
      | inl broken ↦ absurd (e.fails broken)
      | inr builds ↦
          let is = known c.args.tool c.in-Ok.command new app builds.2 in
          let plain = plain_fields new is.plain in
          let parsed = e.ok.1 plain.globals in
          if_some _ _ (IsSignedIn (pos 1) (pos 100000)) c.get_str-in-Ok-try_get_matches_from_mut.ensures
          (λ t first. in_range new (found_of c.in-Ok-try_get_matches_from_mut.matches) t is.rules plain.groups parsed.values first)
    ]
