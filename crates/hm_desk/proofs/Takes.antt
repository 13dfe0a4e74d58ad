-- What deeds take of what is to come over a link.
use Rattle.std.proofs.Common.{◌≡◌, ℕ, List, [], ◌∷◌, ◌++◌, length, take, Option, Some, None, refl, sym, ap, subst, ◌∙◌}
use Rattle.hm_frame.specs.LinkCalls.{LinkCallsAddUp}
use Rattle.hm_frame.specs.Links.{Loses, Gets, Keeps, IsDry, TakesDatagram, max_datagram_len}
use Rattle.hm_frame.specs.declared.datagram.Item.{Item}
use Rattle.hm_frame.specs.declared.datagram.Item.TheVariants as item
use Rattle.hm_frame.specs.declared.datagram.Posted.{Posted}
use Rattle.hm_worker.specs.Heard.{Heard}
use Rattle.hm_worker.specs.Posts.{IsHeard, Says}
use Rattle.hm_desk.specs.Deeds.{Deed, Takes, TakesItems}

takes_items_both : (ds es : List Deed) (items mid left : List Item) → TakesItems ds items mid → TakesItems es mid left → TakesItems (ds ++ es) items left
takes_items_both [] es items mid left first second = subst (λ (l : List Item). TakesItems es l left) first second
takes_items_both (Deed.Hears heard ∷ ds) es [] mid left first second = absurd first
takes_items_both (Deed.Hears heard ∷ ds) es (i ∷ items) mid left first second = (first.0, takes_items_both ds es items mid left first.1 second)
takes_items_both (Deed.FindsEnd ∷ ds) es items mid left first second = (first.0, takes_items_both ds es items mid left first.1 second)
takes_items_both (Deed.Removes replica ∷ ds) es items mid left first second = takes_items_both ds es items mid left first second
takes_items_both (Deed.Retires ∷ ds) es items mid left first second = takes_items_both ds es items mid left first second
takes_items_both (Deed.Starts live ∷ ds) es items mid left first second = takes_items_both ds es items mid left first second

pub takes_both : (ds es : List Deed) (coming mid came : Option (List Item)) → Takes ds coming mid → Takes es mid came → Takes (ds ++ es) coming came
takes_both ds es None mid came first second = tt
takes_both ds es (Some items) None came first second = absurd first
takes_both ds es (Some items) (Some mid) None first second = absurd second
takes_both ds es (Some items) (Some mid) (Some left) first second = takes_items_both ds es items mid left first second

items_kept : (ds : List Deed) (items mid left : List Item) → TakesItems ds items mid → left ≡ mid → TakesItems ds items left
items_kept ds items mid left takes kept = subst (λ (l : List Item). TakesItems ds items l) (sym kept) takes

pub takes_kept : (ds : List Deed) (coming mid came : Option (List Item)) → Takes ds coming mid → Keeps mid came → Takes ds coming came
takes_kept ds None mid came takes kept = tt
takes_kept ds (Some items) None came takes kept = absurd takes
takes_kept ds (Some items) (Some mid) None takes kept = absurd kept
takes_kept ds (Some items) (Some mid) (Some left) takes kept = items_kept ds items mid left takes kept

pub takes_nothing : (coming : Option (List Item)) → Takes [] coming coming
takes_nothing None = tt
takes_nothing (Some items) = refl

-- ---- one deed

next_item : (heard : Heard) (i : Item) (items left : List Item) → IsHeard i heard → items ≡ i ∷ left → TakesItems (Deed.Hears heard ∷ []) items left
next_item heard i items left is loses = subst (λ (l : List Item). TakesItems (Deed.Hears heard ∷ []) l left) (sym loses) (is, refl)

pub hears_next : (heard : Heard) (i : Item) (coming came : Option (List Item)) → IsHeard i heard → Loses coming came (i ∷ []) → Takes (Deed.Hears heard ∷ []) coming came
hears_next heard i None came is loses = tt
hears_next heard i (Some items) None is loses = absurd loses
hears_next heard i (Some items) (Some left) is loses = next_item heard i items left is loses

pub finds_end : (coming came : Option (List Item)) → IsDry came → Keeps coming came → Takes (Deed.FindsEnd ∷ []) coming came
finds_end None came dry kept = tt
finds_end (Some items) None dry kept = absurd kept
finds_end (Some items) (Some left) dry kept = (sym kept ∙ dry, kept)

pub removes_untaken : (replica : ℕ) (coming : Option (List Item)) → Takes (Deed.Removes replica ∷ []) coming coming
removes_untaken replica None = tt
removes_untaken replica (Some items) = refl

pub retires_untaken : (coming : Option (List Item)) → Takes (Deed.Retires ∷ []) coming coming
retires_untaken None = tt
retires_untaken (Some items) = refl

pub starts_untaken : (live : List ℕ) (coming : Option (List Item)) → Takes (Deed.Starts live ∷ []) coming coming
starts_untaken live None = tt
starts_untaken live (Some items) = refl

-- a datagram's bytes, as they stand in the buffer, are those that count
pub hears_datagram : (bytes buf : List ℕ) (count : ℕ) (coming came : Option (List Item)) (heard : Heard) → TakesDatagram (take count buf) (length buf) coming came
    → length buf ≡ max_datagram_len → bytes ≡ take count buf → Says bytes heard → Takes (Deed.Hears heard ∷ []) coming came
hears_datagram bytes buf count coming came heard t size is says =
    hears_next heard (item.Datagram t.whole) coming came (subst (λ (b : List ℕ). Says b heard) (is ∙ t.cut ∙ ap (λ (n : ℕ). take n t.whole) size) says) t.first

-- ---- links

-- what is sent after a call that sends nothing
pub gets_after : LinkCallsAddUp → (sent mid posted : Option (List Posted)) (posts : List Posted) → Keeps sent mid → Gets mid posted posts → Gets sent posted posts
gets_after links sent mid posted posts kept gets = links.sends_both sent mid posted [] posts (links.sends_kept sent sent mid [] (links.sends_none sent) kept) gets
