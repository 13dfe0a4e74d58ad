-- What holds of a group of Viewstamped Replication.
use Rattle.std.specs.Prelude.{◌≡◌, ℕ, suc, ◌<◌, ◌≤◌, true, false, List, length, take, Option, Some, None, is_some, All, slice_get, ◌+◌, ◌*◌}
use Rattle.hm_base.specs.declared.entry.Entry.{Entry}
use Rattle.hm_base.specs.Lists.{IsPrefix, IsSlice}
use Rattle.hm_packet.specs.declared.body.Body.{Body}
use Rattle.hm_packet.specs.declared.body.Body.TheVariants as body
use Rattle.hm_packet.specs.declared.body.Feed.{Feed}
use Rattle.hm_packet.specs.declared.body.FeedAck.{FeedAck}
use Rattle.hm_packet.specs.declared.body.Vote.{Vote}
use Rattle.hm_packet.specs.declared.body.Page.{Page}
use Rattle.hm_packet.specs.Messages.{Message}
use Rattle.hm_rules.specs.Numbers.{numbers_from}
use Rattle.hm_rules.specs.Senders.{number}
use Rattle.hm_rules.specs.Replica.{Replica, Status, applied, acked_by}
use Rattle.hm_rules.specs.Replica.Status.{Normal, Change, Pulling, Staging}
use Rattle.hm_rules.specs.Votes.{own_vote, vote_of}
use Rattle.hm_view_laws.specs.Counts.{count}
use Rattle.hm_view_laws.specs.Leads.{Ghost, Group}
use Rattle.hm_view_laws.specs.Decided.{Upto, Decided, IsDeclared, Covers, ViewsHold}

-- how replica n votes in view w
pub record CastHolds (c : Group) (g : Ghost) (w n : ℕ) (x : Vote) : Type 0 where
  pub view : x.view ≡ w
  pub low : x.normal < w
  pub begun : (g.leads x.normal).begun ≡ true
  pub from : (g.leads x.normal).start ≤ x.len
  pub fits : x.len ≤ length (g.leads x.normal).log
  pub known : x.commit ≤ x.len
  pub declared : IsDeclared c g x.normal (take x.commit (g.leads x.normal).log)
  pub covers : Covers g w n x

abbrev pub AllCasts : Group → Ghost → Type 0
AllCasts c g = (w q : ℕ) (x : Vote) → (g.polls w).cast q ≡ Some x → CastHolds c g w q x

-- ---- a replica

-- its log is of its last normal view
pub record LogHolds (c : Group) (g : Ghost) (n normal : ℕ) (log : List Entry) : Type 0 where
  pub begun : (g.leads normal).begun ≡ true
  pub from : (g.leads normal).start ≤ length log
  pub begins : IsPrefix log (g.leads normal).log
  pub whole : c.leader normal ≡ n → log ≡ (g.leads normal).log
  pub led : (v : ℕ) → (g.leads v).begun ≡ true → c.leader v ≡ n → v ≤ normal
  pub lower : (v : ℕ) → 0 < (g.leads v).held n → v ≤ normal
  pub own : (g.leads normal).held n ≡ suc (length log)

pub record KnownHolds (c : Group) (g : Ghost) (normal : ℕ) (log : List Entry) (known : ℕ) : Type 0 where
  pub fits : known ≤ length log
  pub declared : IsDeclared c g normal (take known log)

-- it voted in no view above its own
abbrev pub VotesBelow : Ghost → ℕ → ℕ → Type 0
VotesBelow g n view = (w : ℕ) (x : Vote) → (g.polls w).cast n ≡ Some x → w ≤ view

-- what it noted of votes
pub record VotesHold (c : Group) (g : Ghost) (view : ℕ) (votes : ℕ → Option Vote) : Type 0 where
  pub each : (q : ℕ) (x : Vote) → votes q ≡ Some x → (q < c.size) × ((g.polls view).cast q ≡ Some x)

pub record NormalHolds (c : Group) (g : Ghost) (n : ℕ) (r : Replica) : Type 0 where
  pub same : r.normal ≡ r.view
  pub unstaged : r.staged ≡ None
  pub started : c.leader r.view ≡ n → r.start ≡ (g.leads r.view).start
  pub within : c.leader r.view ≡ n → (q : ℕ) → acked_by r q ≤ length r.log
  pub noted : c.leader r.view ≡ n → (q : ℕ) → 0 < acked_by r q → r.start ≤ acked_by r q → acked_by r q < (g.leads r.view).held q

pub record ChangeHolds (c : Group) (g : Ghost) (n view : ℕ) (vote : Vote) : Type 0 where
  pub low : vote.normal < view
  pub mine : (g.polls view).cast n ≡ Some vote
  pub unbegun : c.leader view ≡ n → (g.leads view).begun ≡ false

-- the choice is the best of enough votes
pub record IsBest (c : Group) (votes : ℕ → Option Vote) (choice : ℕ) (vote : Vote) : Type 0 where
  pub chosen : votes choice ≡ Some vote
  pub best : (q : ℕ) (x : Vote) → votes q ≡ Some x → Upto x.normal x.len vote.normal vote.len
  pub enough : c.faults < count (λ q. is_some (votes q)) c.size

pub record PullHolds (c : Group) (g : Ghost) (n : ℕ) (r : Replica) : Type 0 where
  pub leader : c.leader r.view ≡ n
  pub choice : ℕ
  pub choice_is : r.choice ≡ Some choice
  pub vote : Vote
  pub best : IsBest c (vote_of r) choice vote
  pub list : List Entry
  pub staged : r.staged ≡ Some list
  pub begins : IsPrefix list (take vote.len (g.leads vote.normal).log)

pub record StageHolds (c : Group) (g : Ghost) (n : ℕ) (r : Replica) : Type 0 where
  pub low : r.normal < r.view
  pub follows : c.leader r.view ≡ n → ⊥
  pub begun : (g.leads r.view).begun ≡ true
  pub list : List Entry
  pub staged : r.staged ≡ Some list
  pub begins : IsPrefix list (g.leads r.view).log
  pub applied_first : IsPrefix (applied r) list

abbrev pub StatusHolds : Group → Ghost → ℕ → Replica → Status → Type 0
StatusHolds c g n r Normal = NormalHolds c g n r
StatusHolds c g n r Change = ChangeHolds c g n r.view (own_vote r) × VotesHold c g r.view (vote_of r) × (r.staged ≡ None)
StatusHolds c g n r Pulling = ChangeHolds c g n r.view (own_vote r) × VotesHold c g r.view (vote_of r) × PullHolds c g n r
StatusHolds c g n r Staging = StageHolds c g n r

pub record MemberHolds (c : Group) (g : Ghost) (n : ℕ) (r : Replica) : Type 0 where
  pub me : r.me ≡ n
  pub members : r.members ≡ numbers_from 0 c.size
  pub low : r.normal ≤ r.view
  pub log : LogHolds c g n r.normal r.log
  pub known : KnownHolds c g r.normal r.log r.known
  pub below : VotesBelow g n r.view
  pub status : StatusHolds c g n r r.status

-- ---- packets

-- so much of the view's log is declared
pub record CommitHolds (c : Group) (g : Ghost) (v len : ℕ) : Type 0 where
  pub begun : (g.leads v).begun ≡ true
  pub fits : len ≤ length (g.leads v).log
  pub declared : IsDeclared c g v (take len (g.leads v).log)

pub record FeedHolds (c : Group) (g : Ghost) (from : ℕ) (feed : Feed) : Type 0 where
  pub leader : c.leader feed.view ≡ from
  pub starts : feed.start ≡ (g.leads feed.view).start
  pub slice : IsSlice feed.first feed.entries (g.leads feed.view).log
  pub commits : CommitHolds c g feed.view feed.commit

pub record AckHolds (g : Ghost) (from : ℕ) (ack : FeedAck) : Type 0 where
  pub begun : (g.leads ack.view).begun ≡ true
  pub held : (g.leads ack.view).start ≤ ack.len → ack.len < (g.leads ack.view).held from

pub record PageHolds (g : Ghost) (from : ℕ) (page : Page) : Type 0 where
  pub vote : Vote
  pub cast : (g.polls page.view).cast from ≡ Some vote
  pub begun : (g.leads vote.normal).begun ≡ true
  pub fits : vote.len ≤ length (g.leads vote.normal).log
  pub slice : IsSlice page.first page.entries (take vote.len (g.leads vote.normal).log)

abbrev pub BodyFits : Group → Ghost → ℕ → Body → Type 0
BodyFits c g from (body.Feed feed) = FeedHolds c g from feed
BodyFits c g from (body.FeedAck ack) = AckHolds g from ack
BodyFits c g from (body.Known told) = CommitHolds c g told.view told.len
BodyFits c g from (body.Vote vote) = (g.polls vote.view).cast from ≡ Some vote
BodyFits c g from (body.Page page) = PageHolds g from page
BodyFits c g from other = Unit {0}

abbrev pub Fits : Group → Ghost → Message → Type 0
Fits c g m = BodyFits c g (number m.src) m.body

-- ---- the group

pub record GroupHolds (c : Group) (g : Ghost) (replicas : List Replica) (net : List Message) : Type 0 where
  pub odd : c.size ≤ 2 * c.faults + 1
  pub views : ViewsHold c g
  pub casts : AllCasts c g
  pub members : (n : ℕ) (r : Replica) → slice_get replicas n ≡ Some r → MemberHolds c g n r
  pub packets : All (Fits c g) net
  pub last : ℕ
  pub decided : Decided c g last g.declared

-- In the middle of a step: replica n has become r and has sent these packets, of which Q holds. `Fits` is a part of Q, and what the
-- core wants of a packet another.
pub record Focus (Q : Ghost → Message → Type 0) (c : Group) (g : Ghost) (replicas : List Replica) (net : List Message) (n : ℕ) (r : Replica) (sends : List Message) : Type 0 where
  pub odd : c.size ≤ 2 * c.faults + 1
  pub views : ViewsHold c g
  pub casts : AllCasts c g
  pub others : (p : ℕ) (x : Replica) → slice_get replicas p ≡ Some x → (p ≡ n → ⊥) → MemberHolds c g p x
  pub mine : MemberHolds c g n r
  pub packets : All (Fits c g) net
  pub outs : All (Q g) sends
  pub last : ℕ
  pub decided : Decided c g last g.declared
