-- The names of the reasons for which a line isn't one of a schedule.
use Rattle.std.specs.Prelude.{ℕ, List, codes}
use Rattle.hm_schedule.specs.declared.line.LineReason.{LineReason}
use Rattle.hm_schedule.specs.declared.line.LineReason.TheVariants as reason

abbrev pub reason_text : LineReason → List ℕ
reason_text reason.End = codes "End"
reason_text reason.Long = codes "Long"
reason_text reason.Byte = codes "Byte"
reason_text reason.Word = codes "Word"
reason_text reason.Header = codes "Header"
reason_text reason.Count = codes "Count"
reason_text reason.Number = codes "Number"
reason_text reason.Range = codes "Range"
reason_text reason.Value = codes "Value"
