-- Which writes an entry node takes: each request of a client once, in the order of their numbers.
use Rattle.std.specs.Prelude.{ℕ, ◌==◌, nat_lt, if◌then◌else◌, List, Option, Some, None}
use Rattle.hm_base.specs.declared.stamp.Stamp.{Stamp}
use Rattle.hm_base.specs.declared.entry.Entry.{Entry}
use Rattle.hm_base.specs.declared.verdict.LatestRequest.{LatestRequest}
use Rattle.hm_base.specs.declared.verdict.Verdict.{Verdict}
use Rattle.hm_base.specs.declared.verdict.Verdict.TheVariants as verdict
use Rattle.hm_base.specs.declared.verdict.Admit.{Admit}
use Rattle.hm_base.specs.declared.verdict.Admit.TheVariants as admit
use Rattle.hm_base.specs.declared.why.Why.TheVariants as why
use Rattle.hm_base.specs.Stamps.{stamp_lt}
use Rattle.hm_base.specs.Logs.{greatest_request, end_stamp}

abbrev pub judged : Option LatestRequest → ℕ → Verdict
judged None request = verdict.New
judged (Some known) request =
    if known.request == request then verdict.Again known.index
    else if nat_lt request known.request then verdict.Old
    else verdict.New

-- how a client's request stands to those of the log
abbrev pub judge : List Entry → ℕ → ℕ → Verdict
judge log client request = judged (greatest_request log client) request

abbrev pub admitted : Verdict → Admit
admitted verdict.Old = admit.Drop why.Repeat
admitted (verdict.Again index) = admit.Again index
admitted verdict.New = admit.Take

-- What becomes of a numbered write, but for the replica's role and the room in its log: a stamp of another switch than the
-- accepted one, then one that isn't above the log's last, then an older request, then the latest request again.
abbrev pub admission : ℕ → List Entry → Stamp → ℕ → ℕ → Admit
admission accepted log stamp client request =
    if accepted == stamp.switch then (if stamp_lt (end_stamp log) stamp then admitted (judge log client request) else admit.Drop why.Order)
    else admit.Drop why.OldSwitch
