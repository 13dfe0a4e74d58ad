-- Reads linked behind the marks.
use Rattle.std.proofs.Common.{◌≡◌, ◌≢◌, ℕ, ◌+◌, ◌-◌, ◌<◌, ◌≤◌, cond, List, [], ◌∷◌, ◌++◌, length, get_or, set, take, drop, refl, sym, ap, subst, ◌∙◌, append_assoc, arith, inl, inr, get_or-set_other, get_or-set_same, length-set, zero, suc}
use Rattle.std.specs.Prelude.{nat_eq, filter}
use Rattle.std.proofs.lemmas.Bool.{cases_lt, cases_eq, cond-true, cond-false, eq-eqb, ne_eqb}
use Rattle.std.proofs.lemmas.Option.{none-some, same_Some}
use Rattle.std.proofs.lemmas.List.{append-nil}
use Rattle.hm_order.specs.declared.mark.Mark.{Mark}
use Rattle.hm_order.specs.declared.mark.Mark.TheVariants.{Invoke, Commit, Reply}
use Rattle.hm_base.specs.declared.operation.OpId.{OpId}
use Rattle.hm_order.specs.declared.mark.Want.{Want}
use Rattle.hm_order.specs.declared.places.Behind.{Behind}
use Rattle.hm_order.specs.Marks.{At, invoked_at}
use Rattle.hm_order.specs.Order.{read_place, invoke_here, reads_after, commit_here, stands_here, gather}
use Rattle.hm_order.proofs.Gathered.{gather_more}
use Rattle.hm_order.specs.Places.{Leads, AreBehind, PutsInFront}

-- the links of a chain stay where one below its lowest mark changes
leads_past : (h : List Mark) (nexts : List ℕ) (i v lowest at : ℕ) (ops : List OpId) → i < lowest → Leads h nexts lowest at ops → Leads h (set nexts i v) lowest at ops
leads_past h nexts i v lowest at [] below leads = leads
leads_past h nexts i v lowest at (op ∷ ops) below leads =
    let from : lowest ≤ at = leads.0 in
    let other : at ≢ i = omega arith in
    let same : get_or (set nexts i v) at 0 ≡ get_or nexts at 0 = get_or-set_other nexts i at v 0 other in
    (from, leads.1, leads.2, subst (λ (next : ℕ). Leads h (set nexts i v) (at + 1) next ops) (sym same) (leads_past h nexts i v (at + 1) (get_or nexts at 0) ops (omega arith) leads.3))

lower : (h : List Mark) (nexts : List ℕ) (lowest less at : ℕ) (ops : List OpId) → less ≤ lowest → Leads h nexts lowest at ops → Leads h nexts less at ops
lower h nexts lowest less at [] below leads = leads
lower h nexts lowest less at (op ∷ ops) below leads = (omega (arith, leads.0), leads.1, leads.2, leads.3)

-- what the marks from i on give
drop_at : (h : List Mark) (i : ℕ) (mark : Mark) → At h i mark → drop i h ≡ mark ∷ drop (i + 1) h
drop_at [] i mark here = absurd (none-some mark here)
drop_at (m ∷ h) zero mark here = ap (λ (x : Mark). x ∷ h) (same_Some m mark here)
drop_at (m ∷ h) (suc i) mark here =
    let next : suc (i + 1) ≡ suc i + 1 = omega arith in
    subst (λ (k : ℕ). drop i h ≡ mark ∷ drop k (m ∷ h)) next (drop_at h i mark here)

gather_from : (given : ℕ → Mark → List OpId) (h : List Mark) (i : ℕ) (mark : Mark) → At h i mark → gather given i (drop i h) ≡ given i mark ++ gather given (i + 1) (drop (i + 1) h)
gather_from given h i mark here = ap (λ (marks : List Mark). gather given i marks) (drop_at h i mark here)

-- the reads behind the mark at j of those that the marks from this one on invoke
abbrev reads_from : List Mark → ℕ → ℕ → List OpId
reads_from h from j = filter (λ op. nat_eq (read_place h op) (j + 1)) (gather (invoke_here h) from (drop from h))

none_here : (h : List Mark) (i j : ℕ) (mark : Mark) → At h i mark → invoke_here h i mark ≡ [] → reads_from h i j ≡ reads_from h (i + 1) j
none_here h i j mark here none =
    ap (λ (ops : List OpId). filter (λ op. nat_eq (read_place h op) (j + 1)) ops) (gather_from (invoke_here h) h i mark here ∙ ap (λ (ops : List OpId). ops ++ gather (invoke_here h) (i + 1) (drop (i + 1) h)) none)

one_here : (h : List Mark) (i j : ℕ) (op : OpId) (want : Want) → At h i (Invoke op want) → invoked_at h op ≡ i
    → reads_from h i j ≡ cond (nat_eq (read_place h op) (j + 1)) (op ∷ reads_from h (i + 1) j) (reads_from h (i + 1) j)
one_here h i j op want here first =
    ap (λ (ops : List OpId). filter (λ o. nat_eq (read_place h o) (j + 1)) ops)
    (gather_from (invoke_here h) h i (Invoke op want) here
    ∙ ap (λ (ops : List OpId). ops ++ gather (invoke_here h) (i + 1) (drop (i + 1) h)) (cond-true (nat_eq (invoked_at h op) i) (op ∷ []) [] (eq-eqb _ _ first)))

pub behind_same : (h : List Mark) (i : ℕ) (mark : Mark) (b : Behind) → At h i mark → invoke_here h i mark ≡ [] → AreBehind h (i + 1) b → AreBehind h i b
behind_same h i mark b here none behind = record {
  heads = behind.heads;
  nexts = behind.nexts;
  reads = λ j l. subst (λ (ops : List OpId). Leads h b.nexts.items i (get_or b.heads.items j 0) ops) (sym (none_here h i j mark here none)) (lower h b.nexts.items (i + 1) i _ _ (omega arith) (behind.reads j l));
}

-- a read that isn't behind the mark at j changes nothing there
stays : (h : List Mark) (i j v : ℕ) (op : OpId) (want : Want) (nexts : List ℕ) (head : ℕ) → At h i (Invoke op want) → invoked_at h op ≡ i → read_place h op ≢ j + 1
    → Leads h nexts (i + 1) head (reads_from h (i + 1) j) → Leads h (set nexts i v) i head (reads_from h i j)
stays h i j v op want nexts head here first other leads =
    subst (λ (ops : List OpId). Leads h (set nexts i v) i head ops) (sym (one_here h i j op want here first ∙ cond-false _ _ _ (ne_eqb _ _ other)))
    (lower h (set nexts i v) (i + 1) i _ _ (omega arith) (leads_past h nexts i v (i + 1) head _ (omega arith) leads))

-- one that is stands in front
joins : (h : List Mark) (i j : ℕ) (op : OpId) (want : Want) (nexts : List ℕ) (head : ℕ) → At h i (Invoke op want) → invoked_at h op ≡ i → read_place h op ≡ j + 1 → i < length h → i < length nexts
    → Leads h nexts (i + 1) head (reads_from h (i + 1) j) → Leads h (set nexts i head) i i (reads_from h i j)
joins h i j op want nexts head here first same below within leads =
    let next : get_or (set nexts i head) i 0 ≡ head = get_or-set_same nexts i head 0 within in
    let rest = leads_past h nexts i head (i + 1) head _ (omega arith) leads in
    subst (λ (ops : List OpId). Leads h (set nexts i head) i i ops) (sym (one_here h i j op want here first ∙ cond-true _ _ _ (eq-eqb _ _ same)))
    (omega arith, below, (want, here), subst (λ (k : ℕ). Leads h (set nexts i head) (i + 1) k (reads_from h (i + 1) j)) (sym next) rest)

past_end : (h : List Mark) (i j : ℕ) (op : OpId) (want : Want) (nexts : List ℕ) (head : ℕ) → At h i (Invoke op want) → invoked_at h op ≡ i → read_place h op ≢ j + 1
    → Leads h nexts (i + 1) head (reads_from h (i + 1) j) → Leads h nexts i head (reads_from h i j)
past_end h i j op want nexts head here first other leads =
    subst (λ (ops : List OpId). Leads h nexts i head ops) (sym (one_here h i j op want here first ∙ cond-false _ _ _ (ne_eqb _ _ other)))
    (lower h nexts (i + 1) i _ _ (omega arith) leads)

-- the same of lists that are equal
carried : (h : List Mark) (lowest : ℕ) (ops : List OpId) (nexts nexts' : List ℕ) (head head' : ℕ) → nexts' ≡ nexts → head' ≡ head → Leads h nexts lowest head ops → Leads h nexts' lowest head' ops
carried h lowest ops nexts nexts' head head' same front leads =
    subst (λ (l : List ℕ). Leads h l lowest head' ops) (sym same) (subst (λ (k : ℕ). Leads h nexts lowest k ops) (sym front) leads)

pub behind_more : (h : List Mark) (i : ℕ) (op : OpId) (want : Want) (place : ℕ) (old new : Behind) → At h i (Invoke op want) → invoked_at h op ≡ i → place ≡ read_place h op → 0 < place → i < length h
    → AreBehind h (i + 1) old → PutsInFront old new place i → AreBehind h i new
behind_more h i op want place old new here first is some below behind puts =
    let whole : length old.heads.items ≡ length h = behind.heads in
    let links : length old.nexts.items ≡ length h = behind.nexts in
    elim (cases_lt (length old.heads.items) place) [
      | inl past ↦
          let same = puts.past past in
          record {
            heads = ap length same.0 ∙ behind.heads;
            nexts = ap length same.1 ∙ behind.nexts;
            reads = λ j l. carried h i (reads_from h i j) old.nexts.items _ (get_or old.heads.items j 0) _ same.1 (ap (λ (heads : List ℕ). get_or heads j 0) same.0)
                (past_end h i j op want old.nexts.items _ here first (λ e. let j' : j < length h = l in omega arith) (behind.reads j l));
          }
      | inr within ↦
          let placed = puts.placed within in
          record {
            heads = ap length placed.0 ∙ length-set old.heads.items (place - 1) i ∙ behind.heads;
            nexts = ap length placed.1 ∙ length-set old.nexts.items i _ ∙ behind.nexts;
            reads = λ j l. elim (cases_eq j (place - 1)) [
              | inl e ↦
                  let here' : place - 1 < length old.heads.items = omega arith in
                  let front : get_or new.heads.items j 0 ≡ i = ap (λ (heads : List ℕ). get_or heads j 0) placed.0 ∙ ap (λ (k : ℕ). get_or (set old.heads.items (place - 1) i) k 0) e ∙ get_or-set_same old.heads.items (place - 1) i 0 here' in
                  let links' : new.nexts.items ≡ set old.nexts.items i (get_or old.heads.items j 0) = placed.1 ∙ ap (λ (k : ℕ). set old.nexts.items i (get_or old.heads.items k 0)) (sym e) in
                  carried h i (reads_from h i j) _ _ i _ links' front
                  (joins h i j op want old.nexts.items _ here first (let at : read_place h op ≡ j + 1 = omega arith in at) below (omega arith) (behind.reads j l))
              | inr ne ↦
                  carried h i (reads_from h i j) _ _ (get_or old.heads.items j 0) _ placed.1 (ap (λ (heads : List ℕ). get_or heads j 0) placed.0 ∙ get_or-set_other old.heads.items (place - 1) j i 0 ne)
                  (stays h i j _ op want old.nexts.items _ here first (λ same. ne (let at : j ≡ place - 1 = omega arith in at)) (behind.reads j l))
            ];
          }
    ]

pub no_invoke : (h : List Mark) (i : ℕ) (mark : Mark) → ((op : OpId) (want : Want) → mark ≡ Invoke op want → ⊥) → invoke_here h i mark ≡ []
no_invoke h i (Invoke op want) other = absurd (other op want refl)
no_invoke h i (Commit op stamp) other = refl
no_invoke h i (Reply op version answer) other = refl

-- ---- going through a chain

-- what was found of the reads behind a mark, and where the rest begins
pub record Follows (h : List Mark) (nexts : List ℕ) (lowest at : ℕ) (old ops reads : List OpId) : Type 0 where
  pub found : List OpId
  pub rest : List OpId
  pub whole : reads ≡ found ++ rest
  pub pushed : ops ≡ old ++ found
  pub leads : Leads h nexts lowest at rest

pub follows_none : (h : List Mark) (nexts : List ℕ) (at : ℕ) (old reads : List OpId) → Leads h nexts 0 at reads → Follows h nexts at at old old reads
follows_none h nexts at old reads leads = record {
  found = [];
  rest = reads;
  whole = refl;
  pushed = sym (append-nil old);
  leads = begins h nexts at reads leads;
}
  where
    begins : (h : List Mark) (nexts : List ℕ) (at : ℕ) (ops : List OpId) → Leads h nexts 0 at ops → Leads h nexts at at ops
    begins h nexts at [] leads = leads
    begins h nexts at (op ∷ ops) leads = (omega arith, leads.1, leads.2, leads.3)

pub follows_more : (h : List Mark) (nexts : List ℕ) (lowest at next : ℕ) (old ops new reads : List OpId) → at < length h → next ≡ get_or nexts at 0
    → ((op : OpId) (want : Want) → At h at (Invoke op want) → new ≡ ops ++ op ∷ []) → Follows h nexts lowest at old ops reads → Follows h nexts (lowest + 1) next old new reads
follows_more h nexts lowest at next old ops new reads below is pushes f = go f.rest f.whole f.leads
  where
    go : (rest : List OpId) → reads ≡ f.found ++ rest → Leads h nexts lowest at rest → Follows h nexts (lowest + 1) next old new reads
    go [] whole leads = absurd (omega (arith, leads))
    go (op ∷ rest) whole leads = record {
      found = f.found ++ op ∷ [];
      rest = rest;
      whole = whole ∙ sym (append_assoc f.found (op ∷ []) rest);
      pushed = pushes op leads.2.0 leads.2.1 ∙ ap (λ (l : List OpId). l ++ op ∷ []) f.pushed ∙ append_assoc old f.found (op ∷ []);
      leads = subst (λ (k : ℕ). Leads h nexts (lowest + 1) k rest) (sym is) (lower h nexts (at + 1) (lowest + 1) _ rest (omega (arith, leads.0)) leads.3);
    }

-- no read is left where the chain has left the marks
pub follows_all : (h : List Mark) (nexts : List ℕ) (lowest at : ℕ) (old ops reads : List OpId) → (at < length h → length h ≤ lowest) → Follows h nexts lowest at old ops reads → ops ≡ old ++ reads
follows_all h nexts lowest at old ops reads past f = go f.rest f.whole f.leads
  where
    go : (rest : List OpId) → reads ≡ f.found ++ rest → Leads h nexts lowest at rest → ops ≡ old ++ reads
    go [] whole leads = f.pushed ∙ ap (λ (l : List OpId). old ++ l) (sym (whole ∙ append-nil f.found))
    go (op ∷ rest) whole leads = absurd (let low : lowest ≤ at = leads.0 in let high : at < length h = leads.1 in let more : length h ≤ lowest = past high in omega arith)

-- ---- the order, one mark further

pub order_more : (h : List Mark) (i : ℕ) (mark : Mark) (old ops new : List OpId) → i < length h → mark ≡ get_or h i mark → old ≡ gather (stands_here h) 0 (take i h) → ops ≡ old ++ commit_here h i mark
    → new ≡ ops ++ reads_after h (i + 1) → new ≡ gather (stands_here h) 0 (take (i + 1) h)
order_more h i mark old ops new l e o p q =
    q ∙ ap (λ (x : List OpId). x ++ reads_after h (i + 1)) p ∙ append_assoc old (commit_here h i mark) (reads_after h (i + 1))
    ∙ ap (λ (x : List OpId). x ++ (commit_here h i mark ++ reads_after h (i + 1))) o ∙ sym (gather_more (stands_here h) h i mark l e)
