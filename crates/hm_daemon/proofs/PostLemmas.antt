-- Packets in a row of spellings, one at a time, and what a link tells of sending them.
use Rattle.std.proofs.Common.{◌≡◌, ℕ, suc, ◌+◌, ◌-◌, ◌<◌, ◌≤◌, List, [], ◌∷◌, ◌++◌, length, get_or, take, Bool, true, false, Option, Some, None, Ok, Err, refl, sym, ap, subst, ◌∙◌, append_assoc, arith}
use Rattle.std.specs.Prelude.{slice_range, flat_map, All, if◌then◌else◌, ◌==◌}
use Rattle.std.proofs.lemmas.List.{append-nil, length-append, map-append, nil_from_length}
use Rattle.std.proofs.lemmas.List.Elements.{All-get_or}
use Rattle.std.proofs.lemmas.Grind.{flat_map-append}
use Rattle.std.proofs.Math.Seq.{take-append_seam, drop-append_seam, get_or-append_seam}
use Rattle.hm_base.specs.declared.node.Node.{Node}
use Rattle.hm_packet.specs.declared.body.Body.{Body}
use Rattle.hm_packet.specs.Messages.{Message}
use Rattle.hm_codec.specs.Rows.{ends_from}
use Rattle.hm_frame.specs.LinkCalls.{LinkCallsAddUp}
use Rattle.hm_frame.specs.Links.{Gets, Keeps}
use Rattle.hm_frame.specs.declared.datagram.Item.{Item}
use Rattle.hm_frame.specs.declared.datagram.Posted.{Posted}
use Rattle.hm_wire.specs.declared.fault.Fault.{Fault}
use Rattle.hm_wire.specs.declared.head.Head.{Head}
use Rattle.hm_wire.specs.Packets.{spelling, HasSpelling}
use Rattle.hm_wire.specs.Reading.{Part, ◌>>=◌, head_at, body_at, end_with, whole, packet_of}
use Rattle.hm_worker.specs.Posts.{post_of, posts_of}

-- ---- where a packet goes

whole_by : (b : Bool) (e : Fault) (x m : Message) → (if b then Ok x else Err e) ≡ Ok m → x ≡ m
whole_by true e x m is = cc
whole_by false e x m is = cc

end_dst : (src dst : Node) (r : Part Body) (m : Message) → end_with src dst r ≡ Ok m → dst ≡ m.dst
end_dst src dst (Ok b) m is = ap (λ (x : Message). x.dst) (whole_by (length b.1 == 0) _ (record { src = src; dst = dst; body = b.0 }) m is)
end_dst src dst (Err f) m is = cc

pub read_dst : (bytes : List ℕ) (m : Message) (h : Head × List ℕ) → packet_of bytes ≡ Ok m → head_at bytes ≡ Ok h → h.0.dst ≡ m.dst
unfolding packet_of
read_dst bytes m h read is = end_dst h.0.src h.0.dst (body_at h.0.code h.1) m (subst (λ (r : Part Head). (r >>= λ x. end_with x.0.src x.0.dst (body_at x.0.code x.1)) ≡ Ok m) is read)

pub has_head : (bytes : List ℕ) (m : Message) (f : Fault) → packet_of bytes ≡ Ok m → head_at bytes ≡ Err f → ⊥
unfolding packet_of
has_head bytes m f read is =
    let both : Err f ≡ Ok m = subst (λ (r : Part Head). (r >>= λ x. end_with x.0.src x.0.dst (body_at x.0.code x.1)) ≡ Ok m) is read in
    cc

-- ---- rows

pub count_ends : (at : ℕ) (ms : List Message) → length (ends_from at ms) ≡ length ms
count_ends at [] = refl
count_ends at (m ∷ ms) = ap suc (count_ends (at + length (spelling m)) ms)

pub end_at : (at : ℕ) (done : List Message) (m : Message) (rest : List Message) (d : ℕ)
    → get_or (ends_from at (done ++ m ∷ rest)) (length done) d ≡ at + length (flat_map spelling done) + length (spelling m)
end_at at [] m rest d = omega arith
end_at at (x ∷ done) m rest d =
    let below = end_at (at + length (spelling x)) done m rest d in
    omega (arith, below, length-append (spelling x) (flat_map spelling done))

pub spelled_at : (done : List Message) (m : Message) (rest : List Message)
    → slice_range (flat_map spelling (done ++ m ∷ rest)) (length (flat_map spelling done)) (length (flat_map spelling done) + length (spelling m)) ≡ spelling m
spelled_at done m rest =
    let begin = length (flat_map spelling done) in
    let many = length (spelling m) in
    let back : begin + many - begin ≡ many = omega arith in
    ap (λ (bytes : List ℕ). slice_range bytes begin (begin + many)) (flat_map-append spelling done (m ∷ rest))
    ∙ ap (λ (bytes : List ℕ). take (begin + many - begin) bytes) (drop-append_seam (flat_map spelling done) (spelling m ++ flat_map spelling rest))
    ∙ ap (λ (n : ℕ). take n (spelling m ++ flat_map spelling rest)) back
    ∙ take-append_seam (spelling m) (flat_map spelling rest)

pub within_row : (done : List Message) (m : Message) (rest : List Message)
    → length (flat_map spelling done) + length (spelling m) ≤ length (flat_map spelling (done ++ m ∷ rest))
within_row done m rest =
    let parts = ap (λ (l : List ℕ). length l) (flat_map-append spelling done (m ∷ rest)) in
    omega (arith, parts, length-append (flat_map spelling done) (spelling m ++ flat_map spelling rest), length-append (spelling m) (flat_map spelling rest))

-- ---- sending them

-- the packets at the front were sent
pub record HasSent (outs : List Message) (index begin : ℕ) (sent now : Option (List Posted)) : Type 0 where
  pub done : List Message
  pub rest : List Message
  pub parts : outs ≡ done ++ rest
  pub counted : length done ≡ index
  pub begin_is : begin ≡ length (flat_map spelling done)
  pub gets : Gets sent now (posts_of done)

-- the next packet is this one
pub record HasNext (outs : List Message) (bytes ends : List ℕ) (index begin : ℕ) (sent now : Option (List Posted)) : Type 0 where
  pub sending : HasSent outs index begin sent now
  pub m : Message
  pub others : List Message
  pub first : sending.rest ≡ m ∷ others
  pub lawful : HasSpelling m
  pub end_is : get_or ends index 0 ≡ begin + length (spelling m)
  pub spelled : slice_range bytes begin (begin + length (spelling m)) ≡ spelling m
  pub within : begin + length (spelling m) ≤ length bytes

pub none_sent : LinkCallsAddUp → (outs : List Message) (sent : Option (List Posted)) → HasSent outs 0 0 sent sent
none_sent calls outs sent = record { done = []; rest = outs; parts = refl; counted = refl; begin_is = refl; gets = calls.sends_none sent }

rest_there : (ms : List Message) → 0 < length ms → (m : Message) × (others : List Message) × (ms ≡ m ∷ others)
rest_there [] some = absurd (omega (arith, some))
rest_there (m ∷ ms) some = (m, ms, refl)

pub next_of : (outs : List Message) (bytes ends : List ℕ) (index begin : ℕ) (sent now : Option (List Posted)) → HasSent outs index begin sent now
    → bytes ≡ flat_map spelling outs → All HasSpelling outs → ends ≡ ends_from 0 outs → index < length ends → HasNext outs bytes ends index begin sent now
next_of outs bytes ends index begin sent now s spelled lawful ends_are more =
    let many = ap (λ (l : List ℕ). length l) ends_are ∙ count_ends 0 outs in
    let all : length outs ≡ length s.done + length s.rest = ap (λ (l : List Message). length l) s.parts ∙ length-append s.done s.rest in
    let one = rest_there s.rest (omega (arith, many, all, s.counted, more)) in
    let m = one.0 in
    let others = one.1 in
    let outs_are : outs ≡ s.done ++ m ∷ others = s.parts ∙ ap (λ (l : List Message). s.done ++ l) one.2 in
    let bytes_are : bytes ≡ flat_map spelling (s.done ++ m ∷ others) = spelled ∙ ap (flat_map spelling) outs_are in
    let end_there : get_or ends index 0 ≡ get_or (ends_from 0 (s.done ++ m ∷ others)) (length s.done) 0 =
    ap (λ (l : List ℕ). get_or l index 0) ends_are
    ∙ ap (λ (l : List Message). get_or (ends_from 0 l) index 0) outs_are
    ∙ ap (λ (i : ℕ). get_or (ends_from 0 (s.done ++ m ∷ others)) i 0) (sym s.counted) in
    let size : length bytes ≡ length (flat_map spelling (s.done ++ m ∷ others)) = ap (λ (l : List ℕ). length l) bytes_are in
    let place : length s.done < length (s.done ++ m ∷ others) = omega (arith, length-append s.done (m ∷ others)) in
    record {
      sending = s;
      m = m;
      others = others;
      first = one.2;
      lawful =
          subst HasSpelling (get_or-append_seam s.done m others m)
          (All-get_or HasSpelling (s.done ++ m ∷ others) (length s.done) m place (subst (λ (l : List Message). All HasSpelling l) outs_are lawful));
      end_is = omega (arith, end_there, end_at 0 s.done m others 0, s.begin_is);
      spelled =
          ap (λ (b : ℕ). slice_range bytes b (b + length (spelling m))) s.begin_is
          ∙ ap (λ (l : List ℕ). slice_range l (length (flat_map spelling s.done)) (length (flat_map spelling s.done) + length (spelling m))) bytes_are
          ∙ spelled_at s.done m others;
      within = omega (arith, size, within_row s.done m others, s.begin_is);
    }

pub one_sent : LinkCallsAddUp → (outs : List Message) (bytes ends : List ℕ) (index begin end : ℕ) (sent now later : Option (List Posted)) (dst : Node) (spelled : List ℕ)
    → (n : HasNext outs bytes ends index begin sent now) → end ≡ begin + length (spelling n.m) → dst ≡ n.m.dst → spelled ≡ spelling n.m
    → Gets now later (record { dst = dst; bytes = spelled } ∷ []) → HasSent outs (index + 1) end sent later
one_sent calls outs bytes ends index begin end sent now later dst spelled n end_is dst_is spelled_is gets =
    let s = n.sending in
    let more : Gets now later (post_of n.m ∷ []) =
    subst (λ (d : Node). Gets now later (record { dst = d; bytes = spelling n.m } ∷ [])) dst_is
    (subst (λ (b : List ℕ). Gets now later (record { dst = dst; bytes = b } ∷ [])) spelled_is gets) in
    let size = ap (λ (l : List ℕ). length l) (flat_map-append spelling s.done (n.m ∷ [])) in
    record {
      done = s.done ++ n.m ∷ [];
      rest = n.others;
      parts = s.parts ∙ ap (λ (l : List Message). s.done ++ l) n.first ∙ sym (append_assoc s.done (n.m ∷ []) n.others);
      counted = omega (arith, length-append s.done (n.m ∷ []), s.counted);
      begin_is = omega (arith, end_is, s.begin_is, size, length-append (flat_map spelling s.done) (spelling n.m ++ []), length-append (spelling n.m) []);
      gets = subst (λ (l : List Posted). Gets sent later l) (sym (map-append post_of s.done (n.m ∷ []))) (calls.sends_both sent now later (posts_of s.done) (post_of n.m ∷ []) s.gets more);
    }

pub all_sent : (outs : List Message) (index begin : ℕ) (sent now : Option (List Posted)) → HasSent outs index begin sent now → length outs ≤ index → Gets sent now (posts_of outs)
all_sent outs index begin sent now s whole =
    let all : length outs ≡ length s.done + length s.rest = ap (λ (l : List Message). length l) s.parts ∙ length-append s.done s.rest in
    let none : length s.rest ≡ 0 = omega (arith, all, s.counted, whole) in
    let outs_are : outs ≡ s.done = s.parts ∙ ap (λ (l : List Message). s.done ++ l) (nil_from_length s.rest none) ∙ append-nil s.done in
    subst (λ (l : List Message). Gets sent now (posts_of l)) (sym outs_are) s.gets

-- what two calls keep
pub keeps_both : (coming mid came : Option (List Item)) → Keeps coming mid → Keeps mid came → Keeps coming came
keeps_both None mid came first second = tt
keeps_both (Some items) None came first second = absurd first
keeps_both (Some items) (Some same) None first second = absurd second
keeps_both (Some items) (Some same) (Some still) first second = second ∙ first
