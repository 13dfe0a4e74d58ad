-- The words of pages, as they are read.
use Rattle.std.proofs.Common.{◌≡◌, ℕ, zero, suc, ◌+◌, ◌-◌, ◌<◌, ◌≤◌, List, [], ◌∷◌, ◌++◌, length, Ok, Err, refl, sym, ap, ◌∙◌, append_assoc, arith}
use Rattle.std.specs.Prelude.{flat_map, decimal}
use Rattle.std.proofs.lemmas.List.{append-nil}
use Rattle.hm_base.specs.Logs.{max_page_len}
use Rattle.hm_base.specs.Spellings.{spaced, act_text, entry_words, entries_words}
use Rattle.hm_base.specs.declared.entry.Entry.{Entry}
use Rattle.hm_base.specs.declared.entry.Act.{Act}
use Rattle.hm_base.specs.declared.stamp.Stamp.{Stamp}
use Rattle.hm_packet.specs.declared.body.Body.TheVariants as body
use Rattle.hm_packet.specs.declared.body.Feed.{Feed}
use Rattle.hm_base.proofs.ListLaws.{spaced_append}
use Rattle.hm_wire.specs.declared.bodies.FeedFields.{FeedFields}
use Rattle.hm_wire.specs.declared.fault.Fault.{Fault}
use Rattle.hm_wire_text.specs.declared.pages.EntryHead.{EntryHead}
use Rattle.hm_wire.specs.declared.malformed.Reason.TheVariants as reason
use Rattle.hm_wire.specs.Grammar.Size.{U8, U32, U64}
use Rattle.hm_wire.specs.Packets.{is_within}
use Rattle.hm_wire.specs.Reading.{◌>>=◌, Part, field_at, number_at, stamp_at, act_at, entry_at, many_at, entries_at, feed_at, as_body}
use Rattle.hm_wire_text.specs.Worded.{worded, act_worded, entry_worded, entry_head_at, feed_head_at, entry_head_words, many_worded, entries_worded, feed_head_words}

-- ---- an entry

abbrev entry_of : EntryHead × List ℕ → Part Entry
entry_of h = act_at h.1 >>= λ a. Ok (record { stamp = h.0.stamp; client = h.0.client; request = h.0.request; object = h.0.object; act = a.0 }, a.1)

by_object : (stamp : Stamp × List ℕ) (client : ℕ × List ℕ) (request : ℕ × List ℕ) (r : Part ℕ) → (r >>= λ object. act_at object.1 >>= λ act. Ok (record { stamp = stamp.0; client = client.0; request = request.0; object = object.0; act = act.0 }, act.1)) ≡ ((r >>= λ object. Ok (record { stamp = stamp.0; client = client.0; request = request.0; object = object.0 }, object.1)) >>= entry_of)
by_object stamp client request (Ok object) = refl
by_object stamp client request (Err f) = refl

by_request : (stamp : Stamp × List ℕ) (client : ℕ × List ℕ) (r : Part ℕ) → (r >>= λ request. number_at U32 request.1 >>= λ object. act_at object.1 >>= λ act. Ok (record { stamp = stamp.0; client = client.0; request = request.0; object = object.0; act = act.0 }, act.1)) ≡ ((r >>= λ request. number_at U32 request.1 >>= λ object. Ok (record { stamp = stamp.0; client = client.0; request = request.0; object = object.0 }, object.1)) >>= entry_of)
by_request stamp client (Ok request) = by_object stamp client request (number_at U32 request.1)
by_request stamp client (Err f) = refl

by_client : (stamp : Stamp × List ℕ) (r : Part ℕ) → (r >>= λ client. number_at U64 client.1 >>= λ request. number_at U32 request.1 >>= λ object. act_at object.1 >>= λ act. Ok (record { stamp = stamp.0; client = client.0; request = request.0; object = object.0; act = act.0 }, act.1)) ≡ ((r >>= λ client. number_at U64 client.1 >>= λ request. number_at U32 request.1 >>= λ object. Ok (record { stamp = stamp.0; client = client.0; request = request.0; object = object.0 }, object.1)) >>= entry_of)
by_client stamp (Ok client) = by_request stamp client (number_at U64 client.1)
by_client stamp (Err f) = refl

by_stamp : (r : Part Stamp) → (r >>= λ stamp. number_at U32 stamp.1 >>= λ client. number_at U64 client.1 >>= λ request. number_at U32 request.1 >>= λ object. act_at object.1 >>= λ act. Ok (record { stamp = stamp.0; client = client.0; request = request.0; object = object.0; act = act.0 }, act.1)) ≡ ((r >>= λ stamp. number_at U32 stamp.1 >>= λ client. number_at U64 client.1 >>= λ request. number_at U32 request.1 >>= λ object. Ok (record { stamp = stamp.0; client = client.0; request = request.0; object = object.0 }, object.1)) >>= entry_of)
by_stamp (Ok stamp) = by_client stamp (number_at U32 stamp.1)
by_stamp (Err f) = refl

entry_by_head : (bytes : List ℕ) → entry_at bytes ≡ (entry_head_at bytes >>= entry_of)
unfolding entry_at entry_head_at
entry_by_head bytes = by_stamp (stamp_at bytes)

pub entry_from_act : (text mid bytes rest : List ℕ) (h : EntryHead) → entry_head_at bytes ≡ Ok (h, rest) → mid ≡ text ++ spaced (entry_head_words h)
    → act_worded mid (act_at rest) ≡ entry_worded text (entry_at bytes)
entry_from_act text mid bytes rest h read is =
    by_case (act_at rest) ∙ sym (ap (λ (q : Part Entry). entry_worded text q) (entry_by_head bytes ∙ ap (λ (q : Part EntryHead). q >>= entry_of) read))
  where
    by_case : (r : Part Act)
        → act_worded mid r ≡ entry_worded text (r >>= λ a. Ok (record { stamp = h.stamp; client = h.client; request = h.request; object = h.object; act = a.0 }, a.1))
    by_case (Ok x) =
        ap (λ (l : List ℕ). Ok (l, x.1)) (
        ap (λ (l : List ℕ). l ++ spaced (act_text x.0 ∷ [])) is
        ∙ append_assoc text (spaced (entry_head_words h)) (spaced (act_text x.0 ∷ []))
        ∙ ap (λ (l : List ℕ). text ++ l) (sym (spaced_append (entry_head_words h) (act_text x.0 ∷ [])))
        )
    by_case (Err f) = refl

pub no_entry : (text bytes : List ℕ) (f : Fault) → entry_head_at bytes ≡ Err f → entry_worded text (entry_at bytes) ≡ Err f
no_entry text bytes f read = ap (λ (q : Part Entry). entry_worded text q) (entry_by_head bytes ∙ ap (λ (q : Part EntryHead). q >>= entry_of) read)

-- ---- entries one after the other

regroup : (text : List ℕ) (e : Entry) (read : Part (List Entry)) → many_worded text (read >>= λ y. Ok (e ∷ y.0, y.1)) ≡ many_worded (text ++ spaced (entry_words e)) read
regroup text e (Ok y) =
    ap (λ (l : List ℕ). Ok (l, y.1)) (ap (λ (l : List ℕ). text ++ l) (spaced_append (entry_words e) (flat_map entry_words y.0)) ∙ sym (append_assoc text (spaced (entry_words e)) (spaced (flat_map entry_words y.0))))
regroup text e (Err f) = refl

pub words_go_on : (text out bytes after : List ℕ) (count i : ℕ) (total : Part (List ℕ)) → i < count → entry_worded text (entry_at bytes) ≡ Ok (out, after)
    → many_worded text (many_at (count - i) bytes) ≡ total → many_worded out (many_at (count - (i + 1)) after) ≡ total
unfolding many_at
words_go_on text out bytes after count i total lt w so_far = by_case (entry_at bytes) refl w
  where
    by_case : (r : Part Entry) → entry_at bytes ≡ r → entry_worded text r ≡ Ok (out, after) → many_worded out (many_at (count - (i + 1)) after) ≡ total
    by_case (Ok x) got w =
        let k : count - i ≡ suc (count - (i + 1)) = omega arith in
        let same : (text ++ spaced (entry_words x.0), x.1) ≡ (out, after) = cc in
        let one : many_worded text (many_at (count - i) bytes) ≡ many_worded (text ++ spaced (entry_words x.0)) (many_at (count - (i + 1)) x.1) = rw (k, got) (regroup text x.0 (many_at (count - (i + 1)) x.1)) in
        ap (λ (p : List ℕ × List ℕ). many_worded p.0 (many_at (count - (i + 1)) p.1)) (sym same) ∙ sym one ∙ so_far
    by_case (Err f) got w = absurd cc

pub words_stop : (f : Fault) (text bytes : List ℕ) (count i : ℕ) (total : Part (List ℕ)) → i < count → entry_worded text (entry_at bytes) ≡ Err f
    → many_worded text (many_at (count - i) bytes) ≡ total → total ≡ Err f
unfolding many_at
words_stop f text bytes count i total lt w so_far = by_case (entry_at bytes) refl w
  where
    by_case : (r : Part Entry) → entry_at bytes ≡ r → entry_worded text r ≡ Err f → total ≡ Err f
    by_case (Ok x) got w = absurd cc
    by_case (Err g) got w =
        let k : count - i ≡ suc (count - (i + 1)) = omega arith in
        let same : g ≡ f = cc in
        let one : many_worded text (many_at (count - i) bytes) ≡ Err g = rw (k, got) refl in
        sym so_far ∙ one ∙ ap (λ (x : Fault). Err x) same

pub words_done : (text bytes : List ℕ) (count i : ℕ) (total : Part (List ℕ)) → count ≤ i → many_worded text (many_at (count - i) bytes) ≡ total → total ≡ Ok (text, bytes)
unfolding many_at
words_done text bytes count i total le so_far =
    let k : count - i ≡ 0 = omega arith in
    let one : many_worded text (many_at (count - i) bytes) ≡ Ok (text, bytes) = rw k (ap (λ (l : List ℕ). Ok (l, bytes)) (append-nil text)) in
    sym so_far ∙ one

-- ---- their number, and then they

many_len : (n : ℕ) (bytes : List ℕ) (x : List Entry × List ℕ) → many_at n bytes ≡ Ok x → length x.0 ≡ n
unfolding many_at
many_len zero bytes x is = let same : ([], bytes) ≡ x = cc in ap (λ (p : List Entry × List ℕ). length p.0) (sym same)
many_len (suc n) bytes x is = by_entry (λ after y got. many_len n after y got) (entry_at bytes) refl
  where
    by_many : ((after : List ℕ) (y : List Entry × List ℕ) → many_at n after ≡ Ok y → length y.0 ≡ n) → (e : Entry) (after : List ℕ) (r : Part (List Entry)) → many_at n after ≡ r → (r >>= λ others. Ok (e ∷ others.0, others.1)) ≡ Ok x → length x.0 ≡ suc n
    by_many fewer e after (Ok y) got is =
        let same : (e ∷ y.0, y.1) ≡ x = cc in
        ap (λ (p : List Entry × List ℕ). length p.0) (sym same) ∙ ap (λ (k : ℕ). suc k) (fewer after y got)
    by_many fewer e after (Err f) got is = absurd cc

    by_entry : ((after : List ℕ) (y : List Entry × List ℕ) → many_at n after ≡ Ok y → length y.0 ≡ n) → (r : Part Entry) → entry_at bytes ≡ r → length x.0 ≡ suc n
    by_entry fewer (Ok first) got = by_many fewer first.0 first.1 (many_at n first.1) refl (sym (ap (λ (q : Part Entry). q >>= λ f. many_at n f.1 >>= λ others. Ok (f.0 ∷ others.0, others.1)) got) ∙ is)
    by_entry fewer (Err f) got = let never : Err f ≡ Ok x = sym (ap (λ (q : Part Entry). q >>= λ g. many_at n g.1 >>= λ others. Ok (g.0 ∷ others.0, others.1)) got) ∙ is in absurd cc

pub entries_from_many : (text mid bytes rest : List ℕ) (count : ℕ) → field_at U8 (is_within 0 max_page_len) reason.Length bytes ≡ Ok (count, rest) → mid ≡ text ++ spaced (decimal count ∷ [])
    → many_worded mid (many_at count rest) ≡ entries_worded text (entries_at bytes)
unfolding entries_at
entries_from_many text mid bytes rest count read is =
    by_case (many_at count rest) refl ∙ sym (ap (λ (q : Part ℕ). entries_worded text (q >>= λ n. many_at n.0 n.1)) read)
  where
    by_case : (r : Part (List Entry)) → many_at count rest ≡ r → many_worded mid r ≡ entries_worded text r
    by_case (Ok x) got =
        let number : decimal (length x.0) ≡ decimal count = ap decimal (many_len count rest x got) in
        let words = flat_map entry_words x.0 in
        ap (λ (l : List ℕ). Ok (l, x.1)) (
        ap (λ (l : List ℕ). l ++ spaced words) is
        ∙ append_assoc text (spaced (decimal count ∷ [])) (spaced words)
        ∙ ap (λ (l : List ℕ). text ++ l) (sym (spaced_append (decimal count ∷ []) words))
        ∙ ap (λ (l : List ℕ). text ++ spaced (l ∷ words)) (sym number)
        )
    by_case (Err f) got = refl

pub no_entries : (text bytes : List ℕ) (f : Fault) → field_at U8 (is_within 0 max_page_len) reason.Length bytes ≡ Err f → entries_worded text (entries_at bytes) ≡ Err f
unfolding entries_at
no_entries text bytes f read = ap (λ (q : Part ℕ). entries_worded text (q >>= λ n. many_at n.0 n.1)) read

-- ---- feeds

abbrev feed_of : FeedFields × List ℕ → Part Feed
feed_of h = entries_at h.1 >>= λ es. Ok (record { view = h.0.view; start = h.0.start; first = h.0.first; commit = h.0.commit; entries = es.0 }, es.1)

by_commit : (view : ℕ × List ℕ) (start : ℕ × List ℕ) (first : ℕ × List ℕ) (r : Part ℕ) → (r >>= λ commit. entries_at commit.1 >>= λ entries. Ok (record { view = view.0; start = start.0; first = first.0; commit = commit.0; entries = entries.0 }, entries.1)) ≡ ((r >>= λ commit. Ok (record { view = view.0; start = start.0; first = first.0; commit = commit.0 }, commit.1)) >>= feed_of)
by_commit view start first (Ok commit) = refl
by_commit view start first (Err f) = refl

by_first : (view : ℕ × List ℕ) (start : ℕ × List ℕ) (r : Part ℕ) → (r >>= λ first. number_at U32 first.1 >>= λ commit. entries_at commit.1 >>= λ entries. Ok (record { view = view.0; start = start.0; first = first.0; commit = commit.0; entries = entries.0 }, entries.1)) ≡ ((r >>= λ first. number_at U32 first.1 >>= λ commit. Ok (record { view = view.0; start = start.0; first = first.0; commit = commit.0 }, commit.1)) >>= feed_of)
by_first view start (Ok first) = by_commit view start first (number_at U32 first.1)
by_first view start (Err f) = refl

by_start : (view : ℕ × List ℕ) (r : Part ℕ) → (r >>= λ start. number_at U32 start.1 >>= λ first. number_at U32 first.1 >>= λ commit. entries_at commit.1 >>= λ entries. Ok (record { view = view.0; start = start.0; first = first.0; commit = commit.0; entries = entries.0 }, entries.1)) ≡ ((r >>= λ start. number_at U32 start.1 >>= λ first. number_at U32 first.1 >>= λ commit. Ok (record { view = view.0; start = start.0; first = first.0; commit = commit.0 }, commit.1)) >>= feed_of)
by_start view (Ok start) = by_first view start (number_at U32 start.1)
by_start view (Err f) = refl

by_view : (r : Part ℕ) → (r >>= λ view. number_at U32 view.1 >>= λ start. number_at U32 start.1 >>= λ first. number_at U32 first.1 >>= λ commit. entries_at commit.1 >>= λ entries. Ok (record { view = view.0; start = start.0; first = first.0; commit = commit.0; entries = entries.0 }, entries.1)) ≡ ((r >>= λ view. number_at U32 view.1 >>= λ start. number_at U32 start.1 >>= λ first. number_at U32 first.1 >>= λ commit. Ok (record { view = view.0; start = start.0; first = first.0; commit = commit.0 }, commit.1)) >>= feed_of)
by_view (Ok view) = by_start view (number_at U32 view.1)
by_view (Err f) = refl

feed_by_head : (bytes : List ℕ) → feed_at bytes ≡ (feed_head_at bytes >>= feed_of)
unfolding feed_at feed_head_at
feed_by_head bytes = by_view (number_at U32 bytes)

pub feed_from_entries : (text mid bytes rest : List ℕ) (h : FeedFields) → feed_head_at bytes ≡ Ok (h, rest) → mid ≡ text ++ spaced (feed_head_words h)
    → entries_worded mid (entries_at rest) ≡ worded text (as_body (λ b. body.Feed b) (feed_at bytes))
feed_from_entries text mid bytes rest h read is =
    by_case (entries_at rest) ∙ sym (ap (λ (q : Part Feed). worded text (as_body (λ b. body.Feed b) q)) (feed_by_head bytes ∙ ap (λ (q : Part FeedFields). q >>= feed_of) read))
  where
    by_case : (r : Part (List Entry))
        → entries_worded mid r ≡ worded text (as_body (λ b. body.Feed b) (r >>= λ es. Ok (record { view = h.view; start = h.start; first = h.first; commit = h.commit; entries = es.0 }, es.1)))
    by_case (Ok x) =
        ap (λ (l : List ℕ). Ok (l, x.1)) (
        ap (λ (l : List ℕ). l ++ spaced (entries_words x.0)) is
        ∙ append_assoc text (spaced (feed_head_words h)) (spaced (entries_words x.0))
        ∙ ap (λ (l : List ℕ). text ++ l) (sym (spaced_append (feed_head_words h) (entries_words x.0)))
        )
    by_case (Err f) = refl

pub no_feed : (text bytes : List ℕ) (f : Fault) → feed_head_at bytes ≡ Err f → worded text (as_body (λ b. body.Feed b) (feed_at bytes)) ≡ Err f
no_feed text bytes f read = ap (λ (q : Part Feed). worded text (as_body (λ b. body.Feed b) q)) (feed_by_head bytes ∙ ap (λ (q : Part FeedFields). q >>= feed_of) read)
