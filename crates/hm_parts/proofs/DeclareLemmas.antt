-- How the declared list and its marks grow.
use Rattle.std.proofs.Common.{◌≡◌, ℕ, ◌+◌, ◌-◌, ◌<◌, ◌≤◌, List, [], ◌∷◌, ◌++◌, length, take, drop, map, sym, ap, ◌∙◌, arith}
use Rattle.std.specs.Prelude.{nat_lt, min}
use Rattle.std.proofs.lemmas.Bool.{cond-true, lt-ltb}
use Rattle.std.proofs.lemmas.List.Elements.{filter-append}
use Rattle.std.proofs.lemmas.List.{map-append, length-take, take_min}
use Rattle.std.proofs.Math.Seq.{drop-append_seam, take-add}
use Rattle.hm_base.specs.declared.entry.Entry.{Entry}
use Rattle.hm_base.specs.Logs.{is_write, writes}
use Rattle.hm_order.specs.declared.mark.Mark.{Mark}
use Rattle.hm_order.specs.Marks.{commit_of}
use Rattle.hm_parts.specs.Seen.{Noted}
use Rattle.hm_rules.specs.Declared.{declared_after, commits_since}

-- the marks of more entries
pub commits_since-append : (before more : List Entry) → commits_since before (before ++ more) ≡ map commit_of (writes more)
commits_since-append before more = ap (λ (l : List Entry). map commit_of (writes l)) (drop-append_seam before more)

pub commits-push : (entries : List Entry) (e : Entry) → map commit_of (writes (entries ++ e ∷ [])) ≡ map commit_of (writes entries) ++ map commit_of (writes (e ∷ []))
commits-push entries e = ap (λ (l : List Entry). map commit_of l) (filter-append is_write entries (e ∷ [])) ∙ map-append commit_of (writes entries) (writes (e ∷ []))

pub front-length : (declared log : List Entry) → take (length declared) log ≡ declared → length declared ≤ length log
front-length declared log front =
    let l : length (take (length declared) log) ≡ length declared = ap length front in
    omega (arith, length-take (length declared) log)

-- what stands behind the declared list in a longer front of the log
front-parts : (declared log : List Entry) (n : ℕ) → take (length declared) log ≡ declared → length declared ≤ n → declared ++ drop (length declared) (take n log) ≡ take n log
front-parts declared log n front le =
    let k = n - length declared in
    let sum : length declared + k ≡ n = omega arith in
    let parts : take n log ≡ declared ++ take k (drop (length declared) log) =
    ap (λ (i : ℕ). take i log) (sym sum) ∙ take-add (length declared) k log ∙ ap (λ (l : List Entry). l ++ take k (drop (length declared) log)) front in
    ap (λ (l : List Entry). declared ++ drop (length declared) l) parts
    ∙ ap (λ (l : List Entry). declared ++ l) (drop-append_seam declared (take k (drop (length declared) log))) ∙ sym parts

-- the declared list where the range reaches past it
joined : (declared log : List Entry) (to : ℕ) → take (length declared) log ≡ declared → length declared < to → declared ++ drop (length declared) (take (min to (length log)) log) ≡ declared_after declared log to
joined declared log to front more =
    let l : length declared ≤ length log = front-length declared log front in
    front-parts declared log (min to (length log)) front (omega arith) ∙ take_min to log
    ∙ sym (cond-true (nat_lt (length declared) to) (take to log) declared (lt-ltb (length declared) to more))

-- the observer after it
pub declares : (old : Noted) (log new : List Entry) (marks : List Mark) (from end to : ℕ) → length old.declared < to → take (length old.declared) log ≡ old.declared → from ≡ length old.declared → end ≡ min to (length log)
    → new ≡ old.declared ++ drop from (take end log) → marks ≡ old.history ++ map commit_of (writes (drop from (take end log)))
    → record old { declared = new; history = marks } ≡ record old { declared = declared_after old.declared log to; history = old.history ++ commits_since old.declared (declared_after old.declared log to) }
declares old log new marks from end to more front from_is end_is new_is marks_is =
    let part : drop from (take end log) ≡ drop (length old.declared) (take (min to (length log)) log) = ap (λ (k : ℕ). drop k (take end log)) from_is ∙ ap (λ (k : ℕ). drop (length old.declared) (take k log)) end_is in
    let longer : old.declared ++ drop from (take end log) ≡ declared_after old.declared log to = ap (λ (l : List Entry). old.declared ++ l) part ∙ joined old.declared log to front more in
    ap (λ (l : List Entry). record old { declared = l; history = marks }) (new_is ∙ longer)
    ∙ ap (λ (l : List Mark). record old { declared = declared_after old.declared log to; history = l })
    (marks_is ∙ ap (λ (l : List Mark). old.history ++ l) (sym (commits_since-append old.declared (drop from (take end log))) ∙ ap (commits_since old.declared) longer))
