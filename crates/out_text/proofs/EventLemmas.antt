-- A line tells its event, and a text of lines tells the list of their events.
use Rattle.std.proofs.Common.{◌≡◌, ◌∙◌, ◌==◌, ◌&&◌, ◌++◌, ◌+◌, ◌<◌, ◌≤◌, ◌^◌, ◌∷◌, [], ℕ, List, Bool, Option, Some, None, Ok, Err, subst, zero, suc, length, take, get_or, map, refl, sym, ap, ap₂, true, false, append_assoc, length-append, arith, decimal, codes, flat_map}
use Rattle.std.proofs.lemmas.List.{append-nil, append_cancel_left, append_cancel_right, get_or-map, length-map, take_more}
use Rattle.std.proofs.lemmas.Grind.{flat_map-append}
use Rattle.std.proofs.lemmas.List.Elements.{All-from_recursion}
use Rattle.std.proofs.lemmas.List.Splits.{slice_split_at, slice_split_none}
use Rattle.std.proofs.lemmas.Bool.{ne_eqb}
use Rattle.std.proofs.lemmas.Bool.Decides.{nat_tests}
use Rattle.std.proofs.lemmas.Fmt.{decimal_injective}
use Rattle.std.proofs.Math.Seq.{take-append_seam}
use Rattle.std.specs.List.{AllByRecursion, IsLastAndRest, find, list_all, slice_split}
use Rattle.std.specs.Prelude.{Result, nat_le, nat_lt, not}
use Rattle.std.specs.Borrow.{Bor}
use Rattle.std.specs.Result.{IsErrAnd}
use Rattle.std.specs.Str.{bytes_eq}
use borrow.Author.Tests.{ltb-true}
use Rattle.acct_types.specs.Cells.{are_plain, is_plain}
use Rattle.flow_templates.specs.declared.decoded.NoticeCause.{NoticeCause}
use Rattle.flow_templates.specs.declared.decoded.NoticeCause.TheVariants as notice
use Rattle.flow_templates.specs.declared.refusal.Cause.{Cause}
use Rattle.flow_templates.specs.declared.refusal.Cause.TheVariants as cause
use Rattle.out_text.specs.declared.event.Event.{Event}
use Rattle.out_text.specs.declared.event.Event.TheVariants.{Cut, Refused, Notice, Drop, End}
use Rattle.out_text.specs.Events.{AllFit, EventFits, IsBelow, CauseFits, IsNamed, NoticeFits, cause_number, cause_word, counts_of, event_line, event_words, events_text, is_name, is_name_octet, notice_number, notice_word, with_number}
use Rattle.out_text.specs.declared.event_reading.LineFault.{LineFault}
use Rattle.out_text.specs.declared.event_reading.LineFault.TheVariants.{NotALine}
use Rattle.out_text.specs.Guesses.{Guesses, causes_with, notices_with, or_zero}
use Rattle.out_text.specs.Lines.{joined}
use Rattle.out_text.proofs.PlainLemmas.{both, plain_decimal}

-- ---- writing

abbrev spaced : List (List ℕ) → List ℕ
spaced words = flat_map (λ word. 32 ∷ word) words

spaced_more : (words : List (List ℕ)) (i : ℕ) → i < length words → spaced (take (i + 1) words) ≡ spaced (take i words) ++ 32 ∷ get_or words i []
spaced_more words i h =
    rw (take_more words i [] h, flat_map-append (λ (word : List ℕ). 32 ∷ word) (take i words) (get_or words i [] ∷ []), append-nil (get_or words i [])) refl

-- a space and the next word
pub longer_line : (before line pushed extended word : List ℕ) (words : List (List ℕ)) (i : ℕ) → i < length words → word ≡ get_or words i []
    → line ≡ before ++ spaced (take i words) → pushed ≡ line ++ 32 ∷ [] → extended ≡ pushed ++ word → extended ≡ before ++ spaced (take (i + 1) words)
longer_line before line pushed extended word words i lt is so_far push extend =
    extend ∙ ap₂ (λ (a b : List ℕ). a ++ b) (push ∙ ap (λ (t : List ℕ). t ++ 32 ∷ []) so_far) is
    ∙ append_assoc (before ++ spaced (take i words)) (32 ∷ []) (get_or words i [])
    ∙ append_assoc before (spaced (take i words)) (32 ∷ get_or words i [])
    ∙ ap (λ (t : List ℕ). before ++ t) (sym (spaced_more words i lt))

-- ---- words

abbrev IsWord : List ℕ → Type 0
IsWord word = are_plain word ≡ true

-- the octet stands nowhere in the text
abbrev IsWithout : ℕ → List ℕ → Type 0
IsWithout octet text = AllByRecursion (λ other. (other == octet) ≡ false) text

differs : (octet other : ℕ) → octet ≤ 32 → is_plain other ≡ true → (other == octet) ≡ false
differs octet other small h =
    let above = ltb-true 32 other (both (nat_lt 32 other) _ h).0 in
    ne_eqb other octet (λ e. absurd (omega (arith, small, above, e)))

word_without : (octet : ℕ) → octet ≤ 32 → (word : List ℕ) → IsWord word → IsWithout octet word
word_without octet small [] h = tt
word_without octet small (first ∷ others) h =
    let parts = both (is_plain first) (are_plain others) h in
    (differs octet first small parts.0, word_without octet small others parts.1)

without_append : (octet : ℕ) (a b : List ℕ) → IsWithout octet a → IsWithout octet b → IsWithout octet (a ++ b)
without_append octet [] b p q = q
without_append octet (first ∷ others) b p q = (p.0, without_append octet others b p.1 q)

spaced_without_feed : (words : List (List ℕ)) → AllByRecursion IsWord words → IsWithout 10 (spaced words)
spaced_without_feed [] h = tt
spaced_without_feed (word ∷ words) h = (refl, without_append 10 word (spaced words) (word_without 10 (omega arith) word h.0) (spaced_without_feed words h.1))

joined_without_feed : (words : List (List ℕ)) → AllByRecursion IsWord words → IsWithout 10 (joined (codes " ") words)
joined_without_feed [] h = tt
joined_without_feed (word ∷ words) h = without_append 10 word (spaced words) (word_without 10 (omega arith) word h.0) (spaced_without_feed words h.1)

abbrev pub is_space : ℕ → Bool
is_space octet = octet == 32

split_again : (word : List ℕ) (words : List (List ℕ)) → AllByRecursion IsWord (word ∷ words) → slice_split is_space (joined (codes " ") (word ∷ words)) ≡ word ∷ words
split_again word [] h = rw (append-nil word) (slice_split_none is_space word (All-from_recursion _ word (word_without 32 (omega arith) word h.0)))
split_again word (next ∷ words) h =
    slice_split_at is_space word 32 (next ++ spaced words) (All-from_recursion _ word (word_without 32 (omega arith) word h.0)) refl
    ∙ ap (λ (others : List (List ℕ)). word ∷ others) (split_again next words h.1)

-- ---- the words of an event

name_is_plain : (octet : ℕ) → is_name_octet octet ≡ true → is_plain octet ≡ true
name_is_plain octet h = grind (arith, nat_tests)

names_are_plain : (text : List ℕ) → list_all is_name_octet text ≡ true → IsWord text
names_are_plain [] h = refl
names_are_plain (octet ∷ octets) h =
    let parts = both (is_name_octet octet) (list_all is_name_octet octets) h in
    rw (name_is_plain octet parts.0) (names_are_plain octets parts.1)

name_is_word : (text : List ℕ) → is_name text ≡ true → IsWord text
name_is_word text h = names_are_plain text (both (nat_le 1 (length text) && nat_le (length text) 32) (list_all is_name_octet text) h).1

cause_is_word : (c : Cause) → IsWord (cause_word c)
unfolding cause_word
cause_is_word cause.Short = refl
cause_is_word (cause.Version number) = refl
cause_is_word cause.V5Count = refl
cause_is_word cause.V5Cut = refl
cause_is_word cause.SetLength = refl
cause_is_word cause.TemplateId = refl
cause_is_word cause.TemplateCut = refl
cause_is_word cause.TemplateEmpty = refl
cause_is_word cause.FieldWidth = refl
cause_is_word cause.ScopeCount = refl
cause_is_word cause.IpfixLength = refl
cause_is_word cause.VarCut = refl
cause_is_word cause.SflowAddress = refl
cause_is_word cause.SampleCut = refl
cause_is_word cause.RecordCut = refl

notice_is_word : (n : NoticeCause) → IsWord (notice_word n)
unfolding notice_word
notice_is_word (notice.NoTemplate id) = refl
notice_is_word (notice.ReservedSet id) = refl
notice_is_word notice.HeaderCut = refl
notice_is_word notice.NotIp = refl
notice_is_word (notice.Skipped format) = refl

with_number_are_words : (word : List ℕ) (number : Option ℕ) → IsWord word → AllByRecursion IsWord (with_number word number)
with_number_are_words word None h = (h, tt)
with_number_are_words word (Some n) h = (h, (plain_decimal n, tt))

decimals_are_words : (numbers : List ℕ) → AllByRecursion IsWord (map decimal numbers)
decimals_are_words [] = tt
decimals_are_words (number ∷ numbers) = (plain_decimal number, decimals_are_words numbers)

are_words : (e : Event) → IsNamed e → AllByRecursion IsWord (event_words e)
are_words (Cut d m) h = (refl, (plain_decimal d, (plain_decimal m, tt)))
are_words (Refused d c) h = (refl, (plain_decimal d, with_number_are_words (cause_word c) (cause_number c) (cause_is_word c)))
are_words (Notice d n) h = (refl, (plain_decimal d, (plain_decimal n.set, with_number_are_words (notice_word n.cause) (notice_number n.cause) (notice_is_word n.cause))))
are_words (Drop p d r) h = (refl, (name_is_word p h, (plain_decimal d, (plain_decimal r, tt))))
are_words (End t) h = (refl, decimals_are_words (counts_of t))

-- the words of an event's line
pub words_again : (e : Event) → IsNamed e → slice_split is_space (joined (codes " ") (event_words e)) ≡ event_words e
words_again (Cut d m) h = split_again _ _ (are_words (Cut d m) h)
words_again (Refused d c) h = split_again _ _ (are_words (Refused d c) h)
words_again (Notice d n) h = split_again _ _ (are_words (Notice d n) h)
words_again (Drop p d r) h = split_again _ _ (are_words (Drop p d r) h)
words_again (End t) h = split_again _ _ (are_words (End t) h)

-- a line without its last octet
pub text_is : (line text : List ℕ) (last : ℕ) (e : Event) → IsLastAndRest line last text → line ≡ event_line e → text ≡ joined (codes " ") (event_words e)
unfolding event_line
text_is line text last e h is =
    let size : length text ≡ length (joined (codes " ") (event_words e)) = omega (arith, h.1, ap length is, length-append (joined (codes " ") (event_words e)) (10 ∷ [])) in
    sym (take-append_seam text (last ∷ [])) ∙ ap₂ take size (sym h.0 ∙ is) ∙ take-append_seam (joined (codes " ") (event_words e)) (10 ∷ [])

line_and_rest : (e : Event) (rest : List ℕ) → event_line e ++ rest ≡ joined (codes " ") (event_words e) ++ 10 ∷ rest
unfolding event_line
line_and_rest e rest = append_assoc (joined (codes " ") (event_words e)) (10 ∷ []) rest

some_text : (e : Event) (rest : List ℕ) → [] ≡ event_line e ++ rest → ⊥
some_text e rest same = by (joined (codes " ") (event_words e)) (same ∙ line_and_rest e rest)
  where
    by : (text : List ℕ) → [] ≡ text ++ 10 ∷ rest → ⊥
    by [] h = cc h
    by (octet ∷ octets) h = cc h

-- a line isn't empty
pub some_line : (line : List ℕ) (e : Event) → length line ≡ 0 → line ≡ event_line e → ⊥
some_line [] e none is = some_text e [] (is ∙ sym (append-nil (event_line e)))
some_line (octet ∷ octets) e none is = omega (arith, none)

-- words of an event aren't refused
pub refuses_none : (answer : Result Event LineFault) (e : Event) (fault : LineFault) → answer ≡ Err NotALine → IsErrAnd answer (λ f. f ≡ fault) → Guesses (Err fault) e → ⊥
refuses_none answer e fault is gives guess =
    let same : NotALine ≡ fault = subst (λ (r : Result Event LineFault). IsErrAnd r (λ f. f ≡ fault)) is gives in
    subst (λ (f : LineFault). Guesses (Err f) e) (sym same) guess

-- equal texts don't differ
pub no_difference : (same : Bool) → true ≡ not same → same ≡ true → ⊥
no_difference true d h = cc d
no_difference false d h = cc h

pub guesses_it : (answer : Result Event LineFault) (guess e : Event) → answer ≡ Ok guess → Guesses answer e → guess ≡ e
guesses_it answer guess e is h = subst (λ (r : Result Event LineFault). Guesses r e) is h

-- ---- counts

abbrev no_word : Bor (List ℕ)
no_word = record { ref_ptr = (0, 0); now = [] }

word_at : (words : List (Bor (List ℕ))) (ns : List ℕ) (i : ℕ) → map (λ word. word.now) words ≡ map decimal ns → i < length ns → (get_or words i no_word).now ≡ decimal (get_or ns i 0)
word_at words ns i same within =
    let size : length words ≡ length ns = sym (length-map words (λ word. word.now)) ∙ ap length same ∙ length-map ns decimal in
    sym (get_or-map (λ word. word.now) words i no_word [] (omega (arith, size, within))) ∙ ap (λ (ws : List (List ℕ)). get_or ws i []) same
    ∙ get_or-map decimal ns i 0 [] within

small_at : (ns : List ℕ) (i : ℕ) → AllByRecursion (λ n. n < 2 ^ 64) ns → get_or ns i 0 < 2 ^ 64
small_at [] i h = omega arith
small_at (n ∷ ns) zero h = h.0
small_at (n ∷ ns) (suc i) h = small_at ns i h.1

pub count_at : (words : List (Bor (List ℕ))) (ns : List ℕ) (i : ℕ) (answer : Result ℕ LineFault)
    → ((n : ℕ) → n < 2 ^ 64 → (get_or words i no_word).now ≡ decimal n → answer ≡ Ok n)
    → AllByRecursion (λ n. n < 2 ^ 64) ns → map (λ word. word.now) words ≡ map decimal ns → i < length ns → answer ≡ Ok (get_or ns i 0)
count_at words ns i answer reads small same within = reads (get_or ns i 0) (small_at ns i small) (word_at words ns i same within)

-- ---- causes and notices by their words

abbrev pub cause_by : List ℕ → ℕ → Option Cause
cause_by word number = find (λ c. bytes_eq (cause_word c) word) (causes_with number)

abbrev pub notice_by : List ℕ → ℕ → Option NoticeCause
notice_by word number = find (λ n. bytes_eq (notice_word n) word) (notices_with number)

pub found_cause : (c : Cause) → cause_by (cause_word c) (or_zero (cause_number c)) ≡ Some c
unfolding cause_word causes_with
found_cause cause.Short = refl
found_cause (cause.Version number) = refl
found_cause cause.V5Count = refl
found_cause cause.V5Cut = refl
found_cause cause.SetLength = refl
found_cause cause.TemplateId = refl
found_cause cause.TemplateCut = refl
found_cause cause.TemplateEmpty = refl
found_cause cause.FieldWidth = refl
found_cause cause.ScopeCount = refl
found_cause cause.IpfixLength = refl
found_cause cause.VarCut = refl
found_cause cause.SflowAddress = refl
found_cause cause.SampleCut = refl
found_cause cause.RecordCut = refl

pub found_notice : (n : NoticeCause) → NoticeFits n → notice_by (notice_word n) (or_zero (notice_number n)) ≡ Some n
unfolding notice_word notices_with
found_notice (notice.NoTemplate id) h = ap (λ i. Some (notice.NoTemplate i)) (omega (arith, h))
found_notice (notice.ReservedSet id) h = ap (λ i. Some (notice.ReservedSet i)) (omega (arith, h))
found_notice notice.HeaderCut h = refl
found_notice notice.NotIp h = refl
found_notice (notice.Skipped format) h = refl

pub notice_is_below : (n : NoticeCause) → NoticeFits n → IsBelow (2 ^ 32) (notice_number n)
notice_is_below (notice.NoTemplate id) h = omega (arith, h)
notice_is_below (notice.ReservedSet id) h = omega (arith, h)
notice_is_below notice.HeaderCut h = tt
notice_is_below notice.NotIp h = tt
notice_is_below (notice.Skipped format) h = h

-- ---- words tell their event

same_decimal : (a b : ℕ) → a < 2 ^ 32 → b < 2 ^ 32 → decimal a ≡ decimal b → a ≡ b
same_decimal a b h h' same = decimal_injective a b (omega (arith, h)) (omega (arith, h')) same

same_numbers : (ns ms : List ℕ) → AllByRecursion (λ n. n < 2 ^ 64) ns → AllByRecursion (λ n. n < 2 ^ 64) ms → map decimal ns ≡ map decimal ms → ns ≡ ms
same_numbers [] [] h h' same = refl
same_numbers [] (m ∷ ms) h h' same = cc same
same_numbers (n ∷ ns) [] h h' same = cc same
same_numbers (n ∷ ns) (m ∷ ms) h h' same =
    let first : decimal n ≡ decimal m = cc same in
    let others : map decimal ns ≡ map decimal ms = cc same in
    ap₂ (λ (n : ℕ) (ns : List ℕ). n ∷ ns) (decimal_injective n m h.0 h'.0 first) (same_numbers ns ms h.1 h'.1 others)

same_parts : (word word' : List ℕ) (number number' : Option ℕ) → IsBelow (2 ^ 32) number → IsBelow (2 ^ 32) number'
    → with_number word number ≡ with_number word' number' → (word ≡ word') × (number ≡ number')
same_parts word word' None None h h' same = (cc same, refl)
same_parts word word' None (Some b) h h' same = cc same
same_parts word word' (Some a) None h h' same = cc same
same_parts word word' (Some a) (Some b) h h' same =
    let text : decimal a ≡ decimal b = cc same in
    (cc same, ap Some (same_decimal a b h h' text))

same_cause : (a b : Cause) → CauseFits a → CauseFits b → with_number (cause_word a) (cause_number a) ≡ with_number (cause_word b) (cause_number b) → a ≡ b
same_cause a b h h' same =
    let parts = same_parts (cause_word a) (cause_word b) (cause_number a) (cause_number b) h h' same in
    let found : Some a ≡ Some b = sym (found_cause a) ∙ ap₂ (λ (word : List ℕ) (number : Option ℕ). cause_by word (or_zero number)) parts.0 parts.1 ∙ found_cause b in
    cc found

same_notice : (a b : NoticeCause) → NoticeFits a → NoticeFits b → with_number (notice_word a) (notice_number a) ≡ with_number (notice_word b) (notice_number b) → a ≡ b
same_notice a b h h' same =
    let parts = same_parts (notice_word a) (notice_word b) (notice_number a) (notice_number b) (notice_is_below a h) (notice_is_below b h') same in
    let found : Some a ≡ Some b = sym (found_notice a h) ∙ ap₂ (λ (word : List ℕ) (number : Option ℕ). notice_by word (or_zero number)) parts.0 parts.1 ∙ found_notice b h' in
    cc found

same_words : (e f : Event) → EventFits e → EventFits f → event_words e ≡ event_words f → e ≡ f
same_words (Cut d m) (Cut d' m') h h' same =
    let first : decimal d ≡ decimal d' = cc same in
    let second : decimal m ≡ decimal m' = cc same in
    ap₂ Cut (decimal_injective d d' h.1.0 h'.1.0 first) (decimal_injective m m' h.1.1 h'.1.1 second)
same_words (Refused d c) (Refused d' c') h h' same =
    let first : decimal d ≡ decimal d' = cc same in
    let others : with_number (cause_word c) (cause_number c) ≡ with_number (cause_word c') (cause_number c') = cc same in
    ap₂ Refused (decimal_injective d d' h.1.0 h'.1.0 first) (same_cause c c' h.1.1 h'.1.1 others)
same_words (Notice d n) (Notice d' n') h h' same =
    let first : decimal d ≡ decimal d' = cc same in
    let second : decimal n.set ≡ decimal n'.set = cc same in
    let others : with_number (notice_word n.cause) (notice_number n.cause) ≡ with_number (notice_word n'.cause) (notice_number n'.cause) = cc same in
    let set = same_decimal n.set n'.set h.1.1 h'.1.1 second in
    let cause = same_notice n.cause n'.cause h.1.2 h'.1.2 others in
    ap₂ Notice (decimal_injective d d' h.1.0 h'.1.0 first) (λ i. record { set = set i; cause = cause i })
same_words (Drop p d r) (Drop p' d' r') h h' same =
    let plugin : p ≡ p' = cc same in
    let first : decimal d ≡ decimal d' = cc same in
    let second : decimal r ≡ decimal r' = cc same in
    let datagram = decimal_injective d d' h.1.0 h'.1.0 first in
    let row = same_decimal r r' h.1.1 h'.1.1 second in
    λ i. Drop (plugin i) (datagram i) (row i)
same_words (End t) (End t') h h' same =
    let words : map decimal (counts_of t) ≡ map decimal (counts_of t') = cc same in
    let counts = same_numbers (counts_of t) (counts_of t') h.1 h'.1 words in
    let datagrams : t.datagrams ≡ t'.datagrams = cc counts in
    let refused : t.refused ≡ t'.refused = cc counts in
    let records : t.records ≡ t'.records = cc counts in
    let dropped : t.dropped ≡ t'.dropped = cc counts in
    let messages : t.messages ≡ t'.messages = cc counts in
    let closed : t.closed ≡ t'.closed = cc counts in
    λ i. End (record { datagrams = datagrams i; refused = refused i; records = records i; dropped = dropped i; messages = messages i; closed = closed i })
same_words (Cut d m) (Refused d' c') h h' same = cc same
same_words (Cut d m) (Notice d' n') h h' same = cc same
same_words (Cut d m) (Drop p' d' r') h h' same = cc same
same_words (Cut d m) (End t') h h' same = cc same
same_words (Refused d c) (Cut d' m') h h' same = cc same
same_words (Refused d c) (Notice d' n') h h' same = cc same
same_words (Refused d c) (Drop p' d' r') h h' same = cc same
same_words (Refused d c) (End t') h h' same = cc same
same_words (Notice d n) (Cut d' m') h h' same = cc same
same_words (Notice d n) (Refused d' c') h h' same = cc same
same_words (Notice d n) (Drop p' d' r') h h' same = cc same
same_words (Notice d n) (End t') h h' same = cc same
same_words (Drop p d r) (Cut d' m') h h' same = cc same
same_words (Drop p d r) (Refused d' c') h h' same = cc same
same_words (Drop p d r) (Notice d' n') h h' same = cc same
same_words (Drop p d r) (End t') h h' same = cc same
same_words (End t) (Cut d' m') h h' same = cc same
same_words (End t) (Refused d' c') h h' same = cc same
same_words (End t) (Notice d' n') h h' same = cc same
same_words (End t) (Drop p' d' r') h h' same = cc same

-- ---- laws

pub one_event : (e f : Event) → EventFits e → EventFits f → event_line e ≡ event_line f → e ≡ f
unfolding event_line
one_event e f h h' same =
    let text = append_cancel_right (joined (codes " ") (event_words e)) (joined (codes " ") (event_words f)) (10 ∷ []) same in
    same_words e f h h' (sym (words_again e h.0) ∙ ap (slice_split is_space) text ∙ words_again f h'.0)

abbrev is_feed : ℕ → Bool
is_feed octet = octet == 10

first_line : (a b rest rest' : List ℕ) → IsWithout 10 a → IsWithout 10 b → a ++ 10 ∷ rest ≡ b ++ 10 ∷ rest' → (a ≡ b) × (rest ≡ rest')
first_line a b rest rest' h h' same =
    let cut : a ∷ slice_split is_feed rest ≡ b ∷ slice_split is_feed rest' =
    sym (slice_split_at is_feed a 10 rest (All-from_recursion _ a h) refl) ∙ ap (slice_split is_feed) same ∙ slice_split_at is_feed b 10 rest' (All-from_recursion _ b h') refl in
    let first : a ≡ b = cc cut in
    let others : 10 ∷ rest ≡ 10 ∷ rest' = append_cancel_left b (10 ∷ rest) (10 ∷ rest') (ap (λ (t : List ℕ). t ++ 10 ∷ rest) (sym first) ∙ same) in
    (first, cc others)

pub one_list : (es fs : List Event) → AllFit es → AllFit fs → events_text es ≡ events_text fs → es ≡ fs
one_list [] [] h h' same = refl
one_list [] (f ∷ fs) h h' same = absurd (some_text f (events_text fs) same)
one_list (e ∷ es) [] h h' same = absurd (some_text e (events_text es) (sym same))
one_list (e ∷ es) (f ∷ fs) h h' same =
    let parts = first_line (joined (codes " ") (event_words e)) (joined (codes " ") (event_words f)) (events_text es) (events_text fs)
    (joined_without_feed (event_words e) (are_words e h.0.0)) (joined_without_feed (event_words f) (are_words f h'.0.0))
    (sym (line_and_rest e (events_text es)) ∙ same ∙ line_and_rest f (events_text fs)) in
    let words = sym (words_again e h.0.0) ∙ ap (slice_split is_space) parts.0 ∙ words_again f h'.0.0 in
    ap₂ (λ (first : Event) (others : List Event). first ∷ others) (same_words e f h.0 h'.0 words) (one_list es fs h.1 h'.1 parts.1)
