use Rattle.std.proofs.Common.{◌∙◌, arith}
use Rattle.std.proofs.lemmas.Fmt.{parse-decimal, IsAscii-decimal}
use Rattle.std.proofs.lemmas.Str.{IsUtf8-from_ascii}
use Rattle.out_text.proofs.event_reading.number_in.Goals as goal

pub returns-in_default : goal.returns-in_default
returns-in_default c n h e = absurd (c.in_default.ensures.cases.0 (rw e (IsUtf8-from_ascii _ (IsAscii-decimal n (omega arith)))))

pub returns-in-Ok-parse : goal.returns-in-Ok-parse
returns-in-Ok-parse c n h e =
    let read = parse-decimal 64 n _ _ h (omega arith) (c.in-Ok.ensures.cases.0 ∙ e) c.parse.ensures.value.0 in
    cc read

pub returns-in-Err : goal.returns-in-Err
returns-in-Err c n h e = cc (parse-decimal 64 n _ _ h (omega arith) (c.in-Ok.ensures.cases.0 ∙ e) c.parse.ensures.value.0)
