-- Questions on a log, read as a plain list of entries from its beginning.
use Rattle.std.specs.Prelude.{ℕ, ◌+◌, Bool, true, false, ◌&&◌, ◌==◌, nat_lt, if◌then◌else◌, List, [], ◌∷◌, take, drop, fold, filter, Option, Some, None}
use Rattle.hm_base.specs.declared.stamp.Stamp.{Stamp}
use Rattle.hm_base.specs.declared.entry.Entry.{Entry}
use Rattle.hm_base.specs.declared.entry.Act.{Act}
use Rattle.hm_base.specs.declared.entry.Act.TheVariants.{Put, Look}
use Rattle.hm_base.specs.declared.entries.TheConstants.{MAX_PAGE_LEN}
use Rattle.hm_base.specs.declared.verdict.LatestRequest.{LatestRequest}
use Rattle.hm_base.specs.declared.operation.Answer.{Answer}
use Rattle.hm_base.specs.declared.operation.Answer.TheVariants.{Nothing, Found}
use Rattle.hm_base.specs.Stamps.{least, stamp_le}

abbrev pub is_put : Act → Bool
is_put (Put value) = true
is_put Look = false

abbrev pub is_write : Entry → Bool
is_write e = is_put e.act

-- the writes of a log, without its logged reads
abbrev pub writes : List Entry → List Entry
writes log = filter is_write log

-- the last entry's stamp, 0.0 for the empty log
abbrev pub end_stamp : List Entry → Stamp
end_stamp log = fold (λ (s : Stamp) (e : Entry). e.stamp) least log

-- the last write of an object, after one more act on it
abbrev pub written : Option (Stamp × List ℕ) → Stamp → Act → Option (Stamp × List ℕ)
written before stamp (Put value) = Some (stamp, value)
written before stamp Look = before

abbrev pub write_over : ℕ → Option (Stamp × List ℕ) → Entry → Option (Stamp × List ℕ)
write_over object before e = if e.object == object then written before e.stamp e.act else before

-- the stamp and the value of the last write of an object, or none
abbrev pub last_write : List Entry → ℕ → Option (Stamp × List ℕ)
last_write log object = fold (write_over object) None log

-- what a read answers that finds this value
abbrev pub found : List ℕ → Answer
found value = Found value

-- what a read answers where this is the last write of its object: version and answer, 0.0 and Nothing for none
abbrev pub reply_of : Option (Stamp × List ℕ) → Stamp × Answer
reply_of None = (least, Nothing)
reply_of (Some write) = (write.0, found write.1)

-- version and answer of a read of the object that sees the whole log
abbrev pub latest : List Entry → ℕ → Stamp × Answer
latest log object = reply_of (last_write log object)

-- what an object store holds of the object after the log's writes
abbrev pub store : List Entry → ℕ → Answer
store log object = (latest log object).1

abbrev pub is_newer : Option LatestRequest → ℕ → Bool
is_newer None request = true
is_newer (Some known) request = nat_lt known.request request

-- a client's greatest request, after one more entry at this index
abbrev pub newest : ℕ → Option LatestRequest → ℕ → Entry → Option LatestRequest
newest index known client e = if e.client == client && is_newer known e.request then Some (record { request = e.request; index = index }) else known

abbrev pub greatest_from : ℕ → Option LatestRequest → ℕ → List Entry → Option LatestRequest
greatest_from index known client [] = known
greatest_from index known client (e ∷ es) = greatest_from (index + 1) (newest index known client e) client es

-- the greatest request of a client in the log and the least index at which it stands, or none
abbrev pub greatest_request : List Entry → ℕ → Option LatestRequest
greatest_request log client = greatest_from 0 None client log

-- how many entries a page has at most
abbrev pub max_page_len : ℕ
max_page_len = MAX_PAGE_LEN

-- the page of a log from a place on
abbrev pub page : List Entry → ℕ → List Entry
page log first = take max_page_len (drop first log)

-- The read-ahead test, for a replica whose log may run ahead of the committed writes: it answers a stamped read from its log
-- where it accepts the stamp's switch and the object's last write has a stamp that is at most the read's.
abbrev pub read_ahead : ℕ → List Entry → Stamp → ℕ → Option (Stamp × Answer)
read_ahead accepted log stamp object =
    if (accepted == stamp.switch) && stamp_le (latest log object).0 stamp then Some (latest log object) else None

abbrev pub is_some_entry : List Entry → Bool
is_some_entry [] = false
is_some_entry (e ∷ es) = true

-- The read-behind test, for a replica that applies committed writes alone: it answers a stamped read from its applied prefix
-- where it accepts the stamp's switch and has applied up to the stamp.
abbrev pub read_behind : ℕ → List Entry → Stamp → ℕ → Option (Stamp × Answer)
read_behind accepted applied stamp object =
    if (accepted == stamp.switch) && (is_some_entry applied && stamp_le stamp (end_stamp applied)) then Some (latest applied object) else None
