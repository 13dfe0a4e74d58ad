-- Stamps along the declared list, and reads whose stamps no longer count.
use Rattle.std.proofs.Common.{◌≡◌, ◌≢◌, ℕ, zero, suc, Bool, List, [], ◌∷◌, Option, Some, None, refl, sym, ap, subst, ◌∙◌, arith}
use Rattle.std.specs.Prelude.{not, ◌&&◌, if◌then◌else◌, IsTrue}
use Rattle.std.proofs.lemmas.Bool.{cond_both, ne_eqb}
use Rattle.std.proofs.lemmas.Option.{none-some, same_Some}
use Rattle.hm_base.specs.declared.entry.Entry.{Entry}
use Rattle.hm_base.specs.declared.node.Node.TheVariants as node
use Rattle.hm_base.specs.declared.node.GroupKind.{GroupKind}
use Rattle.hm_base.specs.declared.node.GroupKind.TheVariants as kind
use Rattle.hm_base.specs.declared.operation.Answer.{Answer}
use Rattle.hm_base.specs.declared.stamp.Stamp.{Stamp}
use Rattle.hm_base.specs.Logs.{is_write, latest, read_ahead, read_behind, is_some_entry, end_stamp}
use Rattle.hm_base.specs.Stamps.{same_stamp, stamp_le, stamp_lt, ◌≼◌}
use Rattle.hm_base.proofs.StampLaws.{same_stamp_is, at_most_same, at_most_then, below_at_most}
use Rattle.hm_due_law.specs.Tidy.{may_follow, StampsRise}
use Rattle.hm_order.specs.Marks.{At}
use Rattle.hm_packet.specs.declared.acted.Did.TheVariants as did
use Rattle.hm_packet.specs.declared.body.Body.{Body}
use Rattle.hm_packet.specs.declared.body.Body.TheVariants as body
use Rattle.hm_packet.specs.declared.body.FastRead.{FastRead}
use Rattle.hm_packet.specs.Messages.{Message}
use Rattle.hm_rules.specs.Chain.{chain_takes, chain_row, chain_normal_read}
use Rattle.hm_rules.specs.Deliveries.{replica_step}
use Rattle.hm_rules.specs.PrimaryBackup.{primary_takes, primary_row, primary_normal_read}
use Rattle.hm_rules.specs.Replica.{Replica, applied, first_member, last_member}
use Rattle.hm_rules.specs.ReplicaSteps.{Stepped, is_foreign, stamped_read, receives}
use Rattle.hm_rules.specs.Senders.{same_node, number}
use Rattle.hm_rules.specs.Viewstamped.{vr_takes, vr_row, vr_normal_read}
use Rattle.hm_rules.specs.Votes.{primary_of}
use Rattle.hm_replacement_laws.specs.Replacement.{StampsNeverFall, reads_unstamped}

-- ---- along a tidy list

follows : (last : Stamp) (e : Entry) → IsTrue (may_follow last e) → last ≼ e.stamp
follows last e =
    cond_both (is_write e) (stamp_lt last e.stamp) (same_stamp e.stamp last) (λ (b : Bool). IsTrue b → last ≼ e.stamp) (λ write below. below_at_most last e.stamp below)
    (λ look same. subst (λ (s : Stamp). last ≼ s) (sym (same_stamp_is e.stamp last same)) (at_most_same last))

all_above : (last : Stamp) (log : List Entry) (i : ℕ) (e : Entry) → StampsRise last log → At log i e → last ≼ e.stamp
all_above last [] i e rise at = absurd (none-some e at)
all_above last (d ∷ ds) zero e rise at = subst (λ (x : Entry). last ≼ x.stamp) (same_Some d e at) (follows last d rise.0)
all_above last (d ∷ ds) (suc i) e rise at = at_most_then last d.stamp e.stamp (follows last d rise.0) (all_above d.stamp ds i e rise.1 at)

pub never_fall : (last : Stamp) (log : List Entry) → StampsRise last log → StampsNeverFall log
never_fall last [] rise i j e later less at behind = absurd (none-some e at)
never_fall last (d ∷ ds) rise i zero e later less at behind = absurd (omega (arith, less))
never_fall last (d ∷ ds) rise zero (suc j) e later less at behind = subst (λ (x : Entry). x.stamp ≼ later.stamp) (same_Some d e at) (all_above d.stamp ds j later rise.1 behind)
never_fall last (d ∷ ds) rise (suc i) (suc j) e later less at behind = never_fall d.stamp ds rise.1 i j e later (omega (arith, less)) at behind

-- ---- a read of a switch that isn't accepted

ahead_fails : (accepted : ℕ) (log : List Entry) (stamp : Stamp) (object : ℕ) → accepted ≢ stamp.switch → read_ahead accepted log stamp object ≡ None
ahead_fails accepted log stamp object other = ap (λ (b : Bool). if b && stamp_le (latest log object).0 stamp then Some (latest log object) else None) (ne_eqb accepted stamp.switch other)

behind_fails : (accepted : ℕ) (log : List Entry) (stamp : Stamp) (object : ℕ) → accepted ≢ stamp.switch → read_behind accepted log stamp object ≡ None
behind_fails accepted log stamp object other =
    ap (λ (b : Bool). if b && (is_some_entry log && stamp_le stamp (end_stamp log)) then Some (latest log object) else None) (ne_eqb accepted stamp.switch other)

-- a step that is done is that of the packet's row
abbrev IsRowIfDone : Stepped → Stepped → Type 0
IsRowIfDone row s = s.did ≡ did.Done → s ≡ row

row_done : (takes : Body → Bool) (row : Replica → ℕ → Body → Stepped) (r : Replica) (m : Message) → IsRowIfDone (row r (number m.src) m.body) (receives takes row r m)
row_done takes row r m =
    cond_both (not (same_node m.dst (node.Replica r.me))) _ _ (IsRowIfDone (row r (number m.src) m.body)) (λ yes done. absurd cc)
    (λ no. cond_both (not (takes m.body)) _ _ (IsRowIfDone (row r (number m.src) m.body)) (λ yes done. absurd cc)
    (λ no. cond_both (is_foreign r m) _ _ (IsRowIfDone (row r (number m.src) m.body)) (λ yes done. absurd cc) (λ no done. refl)))

at_body : (row : Replica → ℕ → Body → Stepped) (r : Replica) (from : ℕ) (b : Body) (read : FastRead) (s : Stepped) → b ≡ body.FastRead read → row r from (body.FastRead read) ≡ s → row r from b ≡ s
at_body row r from b read s is row_is = ap (λ (x : Body). row r from x) is ∙ row_is

-- so the step on it takes no account of the stamp
pub read_unstamped : (k : GroupKind) (r : Replica) (m : Message) (read : FastRead) → m.body ≡ body.FastRead read → r.accepted ≢ read.stamp.switch → (replica_step k r m).did ≡ did.Done
    → replica_step k r m ≡ reads_unstamped k r read
read_unstamped kind.Chain r m read is other done =
    row_done chain_takes chain_row r m done
    ∙ at_body chain_row r (number m.src) m.body read (reads_unstamped kind.Chain r read) is
    (ap (λ (o : Option (Stamp × Answer)). stamped_read o (last_member r) (chain_normal_read r) r read) (ahead_fails r.accepted r.log read.stamp read.object other))
read_unstamped kind.Primary r m read is other done =
    row_done primary_takes primary_row r m done
    ∙ at_body primary_row r (number m.src) m.body read (reads_unstamped kind.Primary r read) is
    (ap (λ (o : Option (Stamp × Answer)). stamped_read o (first_member r) (primary_normal_read r) r read) (ahead_fails r.accepted r.log read.stamp read.object other))
read_unstamped kind.Vr r m read is other done =
    row_done vr_takes vr_row r m done
    ∙ at_body vr_row r (number m.src) m.body read (reads_unstamped kind.Vr r read) is
    (ap (λ (o : Option (Stamp × Answer)). stamped_read o (primary_of r r.view) (vr_normal_read r) r read) (behind_fails r.accepted (applied r) read.stamp read.object other))
