-- What holds of packets and of other members stays true as the epochs' logs, what is held of them and the declared list grow.
use Rattle.std.proofs.Common.{◌≡◌, ℕ, ◌<◌, ◌≤◌, Bool, true, false, List, length, take, Option, Some, None, refl, sym, subst, ◌∙◌, arith, inl, inr}
use Rattle.std.specs.Prelude.{IsTrue, All}
use Rattle.std.proofs.lemmas.Bool.{cases_Bool, false≢true, eqb-true}
use Rattle.std.proofs.lemmas.List.Elements.{All-weaker}
use Rattle.hm_base.specs.declared.entry.Entry.{Entry}
use Rattle.hm_base.specs.Lists.{IsPrefix}
use Rattle.hm_base.proofs.ListLaws.{prefix_same, prefix_then, prefix_at, prefix_take, prefix-length, prefix-take, slice_later, there_is}
use Rattle.hm_packet.specs.declared.body.Body.{Body}
use Rattle.hm_packet.specs.declared.body.Body.TheVariants as body
use Rattle.hm_packet.specs.Messages.{Message}
use Rattle.hm_order.specs.Marks.{At}
use Rattle.hm_rules.specs.Senders.{number}
use Rattle.hm_rules.specs.Replica.{Replica, first_member, acked_by}
use Rattle.hm_rules.specs.PrimaryBackup.{is_primary}
use Rattle.hm_core_laws.specs.Changes.{is_quiet}
use Rattle.hm_view_laws.specs.Leads.{Lead}
use Rattle.hm_view_laws.specs.Changes.{put}
use Rattle.hm_view_laws.proofs.Puts.{each_put}
use Rattle.hm_primary_laws.specs.Led.{first_in, BackupHolds, RoleHolds, MemberHolds, CommitHolds, BodyFits, Fits}
use Rattle.hm_primary_laws.proofs.Firsts.{first_is}

pub record Grew (old new : ℕ → Lead) : Type 0 where
  pub begun : (e : ℕ) → (old e).begun ≡ true → (new e).begun ≡ true
  pub start : (e : ℕ) → (old e).begun ≡ true → (new e).start ≡ (old e).start
  pub log : (e : ℕ) → (old e).begun ≡ true → IsPrefix (old e).log (new e).log
  pub held : (e q : ℕ) → (old e).held q ≤ (new e).held q

pub grew_same : (leads : ℕ → Lead) → Grew leads leads
grew_same leads = record { begun = λ e b. b; start = λ e b. refl; log = λ e b. prefix_same (leads e).log; held = λ e q. omega arith }

pub grew_then : {a b c : ℕ → Lead} → Grew a b → Grew b c → Grew a c
grew_then {a} {b} {c} p q = record {
  begun = λ e t. q.begun e (p.begun e t);
  start = λ e t. q.start e (p.begun e t) ∙ p.start e t;
  log = λ e t. prefix_then (p.log e t) (q.log e (p.begun e t));
  held = λ e k. let l : (a e).held k ≤ (b e).held k = p.held e k in let m : (b e).held k ≤ (c e).held k = q.held e k in omega arith;
}

-- what has not begun had not begun
pub unbegun_before : {old new : ℕ → Lead} → Grew old new → (e : ℕ) → (new e).begun ≡ false → (old e).begun ≡ false
unbegun_before {old} {new} g e f = elim (cases_Bool (old e).begun) [ inl t ↦ absurd (false≢true (sym f ∙ g.begun e t)) | inr b ↦ b ]

-- ---- packets

pub commit_later : {old new : ℕ → Lead} {declared declared' : List Entry} → Grew old new → IsPrefix declared declared' → (view len : ℕ) → CommitHolds old declared view len → CommitHolds new declared' view len
commit_later {old} {new} {declared} {declared'} g p view len x = record {
  begun = g.begun view x.begun;
  fits = let l : len ≤ length (old view).log = x.fits in let m : length (old view).log ≤ length (new view).log = prefix-length (g.log view x.begun) in omega arith;
  prefix = prefix_then (subst (λ (l : List Entry). IsPrefix l declared) (sym (prefix-take len (g.log view x.begun) x.fits)) x.prefix) p;
}

-- the first of an epoch stays as epochs follow
pub first_later : {epochs epochs' : List (List ℕ)} → IsPrefix epochs epochs' → (e : ℕ) → e < length epochs → first_in epochs' e ≡ first_in epochs e
first_later {epochs} {epochs'} p e l =
    let found : (ms : List ℕ) × At epochs e ms = there_is epochs e l in
    first_is epochs' e found.0 (prefix_at e found.0 p found.1) ∙ sym (first_is epochs e found.0 found.1)

module _ {epochs epochs' : List (List ℕ)} {old new : ℕ → Lead} {declared declared' : List Entry} (e : IsPrefix epochs epochs') (g : Grew old new) (p : IsPrefix declared declared') where
  body_later : (from : ℕ) (b : Body) → BodyFits epochs old declared from b → BodyFits epochs' new declared' from b
  body_later from (body.Feed feed) x = record {
    starts = x.starts ∙ sym (g.start feed.view x.commits.begun);
    slice = slice_later x.slice (g.log feed.view x.commits.begun);
    commits = commit_later g p feed.view feed.commit x.commits;
  }
  body_later from (body.FeedAck ack) x = record {
    begun = g.begun ack.view x.begun;
    held = λ le.
        let same : (new ack.view).start ≡ (old ack.view).start = g.start ack.view x.begun in
        let l : ack.len < (old ack.view).held from = x.held (omega arith) in
        let m : (old ack.view).held from ≤ (new ack.view).held from = g.held ack.view from in
        omega arith;
  }
  body_later from (body.Known told) x = commit_later g p told.view told.len x
  body_later from (body.Config config) x = prefix_at config.view config.members e x
  body_later from other x = tt

  pub all_fit_later : (net : List Message) → All (Fits epochs old declared) net → All (Fits epochs' new declared') net
  all_fit_later net all = All-weaker (Fits epochs old declared) (Fits epochs' new declared') (λ m x. body_later (number m.src) m.body x) net all

-- clients, switches and the service send nothing that speaks of an epoch, but in a removal
pub quiet_fits : (epochs : List (List ℕ)) (leads : ℕ → Lead) (declared : List Entry) (from : ℕ) (b : Body) → IsTrue (is_quiet b) → BodyFits epochs leads declared from b
quiet_fits epochs leads declared from (body.Feed feed) t = absurd (false≢true t)
quiet_fits epochs leads declared from (body.FeedAck ack) t = absurd (false≢true t)
quiet_fits epochs leads declared from (body.Known told) t = absurd (false≢true t)
quiet_fits epochs leads declared from (body.Config config) t = absurd (false≢true t)
quiet_fits epochs leads declared from other t = tt

-- ---- other members

-- what n changes: it begins and leads only the epochs that it is the first of, and holds for itself alone
pub record Beside (epochs : List (List ℕ)) (n : ℕ) (declared : List Entry) (old new : ℕ → Lead) : Type 0 where
  pub grew : Grew old new
  pub led : (e : ℕ) → (first_in epochs e ≡ n → ⊥) → ((new e).log ≡ (old e).log) × ((new e).start ≡ (old e).start)
  pub others : (e q : ℕ) → (q ≡ n → ⊥) → (new e).held q ≡ (old e).held q
  pub fresh : (e : ℕ) → (old e).begun ≡ false → (new e).begun ≡ true → (first_in epochs e ≡ n) × IsPrefix declared (take (new e).start (new e).log)

pub beside_same : (epochs : List (List ℕ)) (n : ℕ) (declared : List Entry) (leads : ℕ → Lead) → Beside epochs n declared leads leads
beside_same epochs n declared leads = record { grew = grew_same leads; led = λ e ne. (refl, refl); others = λ e q ne. refl; fresh = λ e f t. absurd (false≢true (sym f ∙ t)) }

-- one epoch's log is changed
pub beside_put : (epochs : List (List ℕ)) (n : ℕ) (declared : List Entry) (old : ℕ → Lead) (v : ℕ) (x : Lead)
    → ((old v).begun ≡ true → x.begun ≡ true) → ((old v).begun ≡ true → x.start ≡ (old v).start) → ((old v).begun ≡ true → IsPrefix (old v).log x.log)
    → ((q : ℕ) → (old v).held q ≤ x.held q) → ((q : ℕ) → (q ≡ n → ⊥) → x.held q ≡ (old v).held q)
    → ((first_in epochs v ≡ n → ⊥) → (x.log ≡ (old v).log) × (x.start ≡ (old v).start))
    → ((old v).begun ≡ false → x.begun ≡ true → (first_in epochs v ≡ n) × IsPrefix declared (take x.start x.log))
    → Beside epochs n declared old (put old v x)
beside_put epochs n declared old v x begun start log held others led fresh = record {
  grew = record {
    begun = each_put (λ (e : ℕ) (y : Lead). (old e).begun ≡ true → y.begun ≡ true) old v x begun (λ e ne t. t);
    start = each_put (λ (e : ℕ) (y : Lead). (old e).begun ≡ true → y.start ≡ (old e).start) old v x start (λ e ne t. refl);
    log = each_put (λ (e : ℕ) (y : Lead). (old e).begun ≡ true → IsPrefix (old e).log y.log) old v x log (λ e ne t. prefix_same (old e).log);
    held = each_put (λ (e : ℕ) (y : Lead). (q : ℕ) → (old e).held q ≤ y.held q) old v x held (λ e ne q. omega arith);
  };
  led = each_put (λ (e : ℕ) (y : Lead). (first_in epochs e ≡ n → ⊥) → (y.log ≡ (old e).log) × (y.start ≡ (old e).start)) old v x led (λ e ne f. (refl, refl));
  others = each_put (λ (e : ℕ) (y : Lead). (q : ℕ) → (q ≡ n → ⊥) → y.held q ≡ (old e).held q) old v x others (λ e ne q f. refl);
  fresh = each_put (λ (e : ℕ) (y : Lead). (old e).begun ≡ false → y.begun ≡ true → (first_in epochs e ≡ n) × IsPrefix declared (take y.start y.log)) old v x fresh (λ e ne f t. absurd (false≢true (sym f ∙ t)));
}

module _ {epochs epochs' : List (List ℕ)} {old new : ℕ → Lead} {declared declared' : List Entry} (n : ℕ) (longer : IsPrefix epochs epochs') (b : Beside epochs n declared old new) (p : IsPrefix declared declared') where
  module _ (r : Replica) where
    by_staged : (s : Option (List Entry)) → BackupHolds old declared r s → BackupHolds new declared' r s
    by_staged None x = record {
      begun = b.grew.begun r.view x.begun;
      from = let e : (new r.view).start ≡ (old r.view).start = b.grew.start r.view x.begun in let l : (old r.view).start ≤ length r.log = x.from in omega arith;
      begins = prefix_then x.begins (b.grew.log r.view x.begun);
    }
    by_staged (Some list) x = record {
      applied_first = x.applied_first;
      begun = λ t. elim (cases_Bool (old r.view).begun) [
        | inl was ↦ prefix_then (x.begun was) (b.grew.log r.view was)
        | inr not ↦ prefix_then (x.waits not) (prefix_then (b.fresh r.view not t).1 (front_of (new r.view).start (new r.view).log))
      ];
      waits = λ f. prefix_then (x.waits (unbegun_before b.grew r.view f)) p;
    }
      where
        front_of : (k : ℕ) (l : List Entry) → IsPrefix (take k l) l
        front_of k l = prefix_take k l

    by_role : (first_in epochs r.view ≡ n → ⊥) → (q : Bool) → RoleHolds old declared r q → RoleHolds new declared' r q
    by_role ne true x = record {
      begun = b.grew.begun r.view x.begun;
      log = x.log ∙ sym (b.led r.view ne).0;
      start = x.start ∙ sym (b.led r.view ne).1;
      unstaged = x.unstaged;
      within = x.within;
      noted = λ q l s. let a : acked_by r q < (old r.view).held q = x.noted q l s in let m : (old r.view).held q ≤ (new r.view).held q = b.grew.held r.view q in omega arith;
    }
    by_role ne false x = by_staged r.staged x

  pub member_later : (i : ℕ) (r : Replica) → (is_primary r ≡ true → i ≡ n → ⊥) → ((e : ℕ) → (new e).held i ≡ (old e).held i) → MemberHolds epochs old declared i r → MemberHolds epochs' new declared' i r
  member_later i r ne same h = record {
    me = h.me;
    epoch = prefix_at r.view r.members longer h.epoch;
    known = h.known;
    applied = prefix_then h.applied p;
    role = by_case (is_primary r) refl h.role;
    own = λ u. same r.view ∙ h.own u;
    lower = λ e l. h.lower e (let s : (new e).held i ≡ (old e).held i = same e in omega arith);
  }
    where
      by_case : (q : Bool) → is_primary r ≡ q → RoleHolds old declared r q → RoleHolds new declared' r q
      by_case true t x = by_role r (λ f. ne t (sym h.me ∙ sym (eqb-true (first_member r) r.me t) ∙ sym (first_is epochs r.view r.members h.epoch) ∙ f)) true x
      by_case false t x = by_staged r r.staged x

  pub member_other : (i : ℕ) (r : Replica) → (i ≡ n → ⊥) → MemberHolds epochs old declared i r → MemberHolds epochs' new declared' i r
  member_other i r ne h = member_later i r (λ t. ne) (λ e. b.others e i ne) h
