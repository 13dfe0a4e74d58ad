-- Where a step is, and what its parts come to.
use Rattle.std.specs.Prelude.{All, ◌%◌, ◌-◌, ◌/◌}
use Rattle.std.proofs.lemmas.List.Elements.{All-cons, All-nil}
use Rattle.std.proofs.Common.{List, [], ap, length, subst, sym, true, ℕ, ◌++◌, ◌<◌, ◌∙◌, ◌∷◌, ◌≡◌}
use Rattle.std.proofs.lemmas.Bool.{eqb-true}
use Rattle.hm_base.specs.declared.why.Why.{Why}
use Rattle.hm_core_laws.proofs.Members.{numbers-length}
use Rattle.hm_packet.specs.Messages.{Message}
use Rattle.hm_rules.specs.Replica.{Replica}
use Rattle.hm_rules.specs.Replica.Status.{Normal}
use Rattle.hm_rules.specs.ReplicaSteps.{Stepped, and_sends, commits, ignored, log_full, nothing, pages, sends}
use Rattle.hm_rules.specs.Viewstamped.{vr_commits, vr_grew}
use Rattle.hm_rules.specs.Votes.{faults, is_own_view, primary_of, size}
use Rattle.hm_rules.specs.World.{World}
use Rattle.hm_view_laws.proofs.Alone.{focus_sent}
use Rattle.hm_view_laws.proofs.Ends.{Ends, Fronts, Logs, ends_commits, ends_grew, nothing_declared}
use Rattle.hm_view_laws.proofs.Grows.{Grew, Stays, grew_then}
use Rattle.hm_view_laws.proofs.Others.{Moved}
use Rattle.hm_view_laws.specs.Facts.{Focus, MemberHolds}
use Rattle.hm_view_laws.specs.Leads.{Ghost, Group}
use Rattle.hm_vr_laws.proofs.Saying.{good_stays, may_send}
use Rattle.hm_vr_laws.specs.Voted.{Good, Sound, group_of}
use Rattle.hm_packet.specs.declared.acted.Did.TheVariants as did
use Rattle.hm_vr_laws.proofs.Laws.{StepLaws}

abbrev pub group : World → Group
group w = group_of (length w.replicas)

-- In the middle of a step of replica n, behind the packets that it has sent already: nothing is declared yet.
pub record IsHere (w : World) (before : Ghost) (n : ℕ) (front : List Message) (r : Replica) : Type 0 where
  pub laws : StepLaws
  pub ghost : Ghost
  pub grew : Grew before ghost
  pub same : ghost.declared ≡ before.declared
  pub logs : Logs (Sound w) ghost
  pub focus : Focus (Good w (group w)) (group w) ghost w.replicas w.net n r front

-- A part of a step that changes the view has ended; where it has begun the view, its primary leads it.
pub record Checked (w : World) (before : Ghost) (n : ℕ) (front : List Message) (s : Stepped) : Type 0 where
  pub laws : StepLaws
  pub ends : Ends (Good w (group w)) (Sound w) (group w) before w.replicas w.net n front s
  pub leads : s.replica.status ≡ Normal → (group w).leader s.replica.view ≡ n
  pub quiet : s.declared ≡ nothing

pub fronts_sound : StepLaws → (w : World) → Fronts (Sound w)
fronts_sound laws w xs ys p l = laws.front w.history w.net xs ys p l

module _ (w : World) (before : Ghost) (n : ℕ) where
  abbrev c : Group
  c = group w

  abbrev pub Q : Ghost → Message → Type 0
  Q = Good w (group w)

  abbrev pub stays : Stays (Good w (group w))
  stays = good_stays w (group w)

  abbrev pub Here : List Message → Replica → Type 0
  Here front r = IsHere w before n front r

  abbrev pub Ended : List Message → Stepped → Type 0
  Ended front s = Ends (Good w (group w)) (Sound w) (group w) before w.replicas w.net n front s

  -- a step that does something comes to an end
  abbrev pub Fine : Stepped → Type 0
  Fine s = s.did ≡ did.Done → Ends (Good w (group w)) (Sound w) (group w) before w.replicas w.net n [] s

  pub ignores : (r : Replica) (reason : Why) → Fine (ignored r reason)
  ignores r reason d = absurd (let e : did.Ignored reason ≡ did.Done = d in cc)

  pub full : (r : Replica) → Fine (log_full r)
  full r d = absurd (let e : did.LogFull ≡ did.Done = d in cc)

  pub size_is : (g : Ghost) (r : Replica) → MemberHolds (group w) g n r → size r ≡ length w.replicas
  size_is g r m = ap (λ (l : List ℕ). length l) m.members ∙ numbers-length 0 (length w.replicas)

  pub faults_are : (g : Ghost) (r : Replica) → MemberHolds (group w) g n r → faults r ≡ (group w).faults
  faults_are g r m = ap (λ (k : ℕ). (k - 1) / 2) (size_is g r m)

  pub leader_is : (g : Ghost) (r : Replica) (v : ℕ) → MemberHolds (group w) g n r → primary_of r v ≡ (group w).leader v
  leader_is g r v m = ap (λ (k : ℕ). v % k) (size_is g r m)

  -- who is the primary of its view
  pub own_leader : (g : Ghost) (r : Replica) → MemberHolds (group w) g n r → is_own_view r ≡ true → (group w).leader r.view ≡ n
  own_leader g r m t = sym (leader_is g r r.view m) ∙ eqb-true (primary_of r r.view) r.me t ∙ m.me

  -- ---- going on

  module _ (front : List Message) (r : Replica) (h : IsHere w before n front r) where
    pub here_sent : (outs : List Message) → All (Good w (group w) h.ghost) outs → IsHere w before n (front ++ outs) r
    here_sent outs all = record { laws = h.laws; ghost = h.ghost; grew = h.grew; same = h.same; logs = h.logs; focus = focus_sent (Good w (group w)) (good_stays w (group w)) (group w) h.ghost w.replicas w.net n r front h.focus outs all }

    -- the replica changes alone
    pub here_alone : (m : Replica) → Focus (Good w (group w)) (group w) h.ghost w.replicas w.net n m front → IsHere w before n front m
    here_alone m f = record { laws = h.laws; ghost = h.ghost; grew = h.grew; same = h.same; logs = h.logs; focus = f }

    -- the ghost grows with it
    pub here_moved : (g : Ghost) (m : Replica) → g.declared ≡ h.ghost.declared → Logs (Sound w) g → Moved (Good w (group w)) (good_stays w (group w)) (group w) w.replicas w.net n h.ghost g m front → IsHere w before n front m
    here_moved g m same logs x = record { laws = h.laws; ghost = g; grew = grew_then h.grew x.grew; same = same ∙ h.same; logs = logs; focus = x.focus }

    -- the step ends with these packets
    pub here_ends : (outs : List Message) → All (Good w (group w) h.ghost) outs → Ends (Good w (group w)) (Sound w) (group w) before w.replicas w.net n front (sends r outs)
    here_ends outs all = record {
      ghost = h.ghost;
      grew = h.grew;
      same = h.same ∙ sym (nothing_declared before.declared r.log);
      focus = focus_sent (Good w (group w)) (good_stays w (group w)) (group w) h.ghost w.replicas w.net n r front h.focus outs all;
      logs = h.logs;
    }

    module _ (small : n < length w.replicas) (normal : r.status ≡ Normal) (leader : (group w).leader r.view ≡ n) where
      pub here_commits : Ends (Good w (group w)) (Sound w) (group w) before w.replicas w.net n front (vr_commits r)
      here_commits = subst (λ (k : ℕ). Ends (Good w (group w)) (Sound w) (group w) before w.replicas w.net n front (commits k r)) (sym (faults_are h.ghost r h.focus.mine))
          (ends_commits (Good w (group w)) (good_stays w (group w)) (Sound w) (group w) before w.replicas w.net n h.ghost r front (fronts_sound h.laws w) (may_send h.laws w (group w) w.replicas w.net n) h.grew h.same h.logs h.focus normal leader small)

      pub here_grew : Ends (Good w (group w)) (Sound w) (group w) before w.replicas w.net n front (vr_grew r)
      here_grew = subst (λ (k : ℕ). Ends (Good w (group w)) (Sound w) (group w) before w.replicas w.net n front (and_sends (commits k r) pages)) (sym (faults_are h.ghost r h.focus.mine))
          (ends_grew (Good w (group w)) (good_stays w (group w)) (Sound w) (group w) before w.replicas w.net n h.ghost r front (fronts_sound h.laws w) (may_send h.laws w (group w) w.replicas w.net n) h.grew h.same h.logs h.focus normal leader small)

  -- ---- packets of which nothing is wanted but what the view's facts say

  pub one_sent : (g : Ghost) (m : Message) → Good w (group w) g m → All (Good w (group w) g) (m ∷ [])
  one_sent g m x = All-cons (Good w (group w) g) m [] x (All-nil (Good w (group w) g))
