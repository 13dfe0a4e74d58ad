use Rattle.std.proofs.Common.{◌≡◌, ℕ, ◌+◌, ◌%◌, ◌≤◌, List, [], ◌∷◌, ◌++◌, length, set, Option, Some, None, ap, sym, subst, ◌∙◌, arith, length-append, ◌<◌, get_or}
use Rattle.std.proofs.lemmas.List.{length-map}
use Rattle.std.proofs.lemmas.Grind.{get_or_default_zero}
use Rattle.std.proofs.Math.Nat.{mod-lt}
use Rattle.std.specs.Prelude.{slice_index, vec_capacity}
use Rattle.hm_store.specs.declared.last_places.Link.{Link}
use Rattle.hm_store.specs.declared.last_places.LastPlaces.TheInside.{Inside}
use Rattle.hm_store.specs.declared.last_places.TheConstants.{BUCKETS}
use Rattle.hm_store.specs.Keys.{Keys}
use Rattle.hm_store.specs.Log.{max_log_len}
use Rattle.hm_store.specs.Chained.{keys_in, AreChained, IsChained}
use Rattle.hm_store.proofs.Chains.{key_chained, none_more}
use Rattle.hm_store.proofs.last_places.LastPlaces.push.Goals.{in-Some, in_default}
use Rattle.hm_store.proofs.last_places.LastPlaces.push.Goals as goal

-- with one more place, whatever stands at it
one_more : (old new : Inside) (pushed : Link) → IsChained old → length old.links.items + 1 ≤ old.cap → AreChained new.heads.items new.links.items
    → new.links.items ≡ old.links.items ++ pushed ∷ [] → new.cap ≡ old.cap → old.cap ≤ vec_capacity new.links → IsChained new
one_more old new pushed h room chained more cap large =
    let bounded : old.cap ≤ max_log_len = h.bounded in
    record {
      chained = chained;
      within = omega (arith, ap (λ (l : List Link). length l) more, length-append old.links.items (pushed ∷ []), cap);
      bounded = omega (arith, cap);
      room = omega (arith, cap);
    }

-- how many places there are, as the contract sees them and as the fields hold them
room_for_one : (c : goal.After-push_reserved) → length c.self.inside.links.items + 1 ≤ c.self.inside.cap
room_for_one c =
    let count : length (keys_in c.self.inside.links.items) ≡ length c.self.inside.links.items = length-map c.self.inside.links.items (λ (l : Link). l.key) in
    let same : length (keys_in c.self.inside.links.items) ≡ length c.args.self.now.items = ap (λ (k : Keys). length k.items) c.self.view_is in
    let cap : c.self.inside.cap ≡ c.args.self.now.cap = ap (λ (k : Keys). k.cap) c.self.view_is in
    omega (arith, c.requires)

pub invariant_of-self : goal.invariant_of-self
invariant_of-self c = elim c.match-key.branch [
  | in-Some w ↦ (
      let old : Inside = c.self.inside in
      let key : ℕ = w.in-Some.key in
      let chained : AreChained old.heads.items old.links.items = c.self.invariant.chained in
      let bucket : w.bucket_of-bucket.result ≡ key % BUCKETS = w.bucket_of-bucket.ensures in
      let within : w.bucket_of-bucket.result < length old.heads.items = omega (arith, bucket, mod-lt key {m = BUCKETS} (omega arith), chained.buckets) in
      let head : w.index-before.result.now ≡ slice_index old.heads.items (key % BUCKETS) =
      w.index-before.ensures ∙ get_or_default_zero old.heads.items w.bucket_of-bucket.result w.index-before.result.now within ∙ ap (λ (n : ℕ). get_or old.heads.items n 0) bucket in
      let number : w.len.result + 1 ≡ length old.links.items + 1 = ap (λ (n : ℕ). n + 1) (w.len.ensures ∙ old.links.ok.0) in
      let heads : c.match-key.self-inside.heads.items ≡ set old.heads.items (key % BUCKETS) (w.len.result + 1) =
      ap (λ (i : Inside). i.heads.items) w.self-inside-is ∙ ap (λ (n : ℕ). set old.heads.items n (w.len.result + 1)) bucket in
      let pushed : Link = record { key = Some key; before = w.index-before.result.now } in
      let links : c.push_reserved.new.self.items ≡ old.links.items ++ pushed ∷ [] =
      c.push_reserved.ensures.items
      ∙ ap (λ (i : Inside). i.links.items ++ (record { key = c.match-key.key; before = c.match-key.before }) ∷ []) w.self-inside-is
      ∙ ap (λ (k : Option ℕ). old.links.items ++ (record { key = k; before = c.match-key.before }) ∷ []) w.key-is
      ∙ ap (λ (n : ℕ). old.links.items ++ (record { key = Some key; before = n }) ∷ []) w.before-is in
      let after : AreChained (set old.heads.items (key % BUCKETS) (w.len.result + 1)) (old.links.items ++ pushed ∷ []) = key_chained old.heads.items old.links.items key (w.len.result + 1) w.index-before.result.now chained number head in
      one_more old (record { heads = c.match-key.self-inside.heads; links = c.push_reserved.new.self; cap = c.match-key.self-inside.cap }) pushed c.self.invariant (room_for_one c)
      (subst (λ (h : List ℕ). AreChained h c.push_reserved.new.self.items) (sym heads) (subst (λ (l : List Link). AreChained (set old.heads.items (key % BUCKETS) (w.len.result + 1)) l) (sym links) after))
      links (ap (λ (i : Inside). i.cap) w.self-inside-is)
      (let same : vec_capacity c.push_reserved.new.self ≡ vec_capacity old.links = c.push_reserved.ensures.capacity ∙ ap (λ (i : Inside). vec_capacity i.links) w.self-inside-is in
      omega (arith, c.self.invariant.room)))
  | in_default w ↦ (
      let old : Inside = c.self.inside in
      let pushed : Link = record { key = None; before = c.match-key.before } in
      let links : c.push_reserved.new.self.items ≡ old.links.items ++ pushed ∷ [] =
      c.push_reserved.ensures.items
      ∙ ap (λ (i : Inside). i.links.items ++ (record { key = c.match-key.key; before = c.match-key.before }) ∷ []) w.self-inside-is
      ∙ ap (λ (k : Option ℕ). old.links.items ++ (record { key = k; before = c.match-key.before }) ∷ []) (w.key-is ∙ w.in_default.is) in
      one_more old (record { heads = c.match-key.self-inside.heads; links = c.push_reserved.new.self; cap = c.match-key.self-inside.cap }) pushed c.self.invariant (room_for_one c)
      (subst (λ (h : List ℕ). AreChained h c.push_reserved.new.self.items) (sym (ap (λ (i : Inside). i.heads.items) w.self-inside-is))
      (subst (λ (l : List Link). AreChained old.heads.items l) (sym links) (none_more old.heads.items old.links.items c.match-key.before c.self.invariant.chained)))
      links (ap (λ (i : Inside). i.cap) w.self-inside-is)
      (let same : vec_capacity c.push_reserved.new.self ≡ vec_capacity old.links = c.push_reserved.ensures.capacity ∙ ap (λ (i : Inside). vec_capacity i.links) w.self-inside-is in
      omega (arith, c.self.invariant.room)))
]
