-- How far a show has come, and how it ends from there.
use Rattle.std.proofs.Common.{◌≡◌, ℕ, suc, ◌+◌, ◌<◌, ◌≤◌, List, [], ◌∷◌, ◌++◌, length, Option, Some, None, Result, Ok, Err, refl, sym, ap, subst, ◌∙◌, inl, inr, append_assoc, arith, lit<, lit≤}
use Rattle.std.specs.Prelude.{flat_map, codes, decimal}
use Rattle.std.specs.List.{AllByRecursion}
use Rattle.std.specs.Io.KnownBytes.{Consumes, Keeps, Appends, IsAtEnd}
use Rattle.std.proofs.lemmas.List.{append-nil, length-append}
use Rattle.std.proofs.lemmas.Grind.{flat_map-append}
use Rattle.hm_base.specs.Lists.{IsPrefix}
use Rattle.hm_packet.specs.Messages.{Message}
use Rattle.hm_packet.specs.Texts.{packet_text}
use Rattle.hm_wire.specs.Packets.{HasSpelling}
use Rattle.hm_frame.specs.Frames.{head_len, max_payload_len, frame, payload_len, IsPart, Takes}
use Rattle.hm_outside.specs.Calls.{CallsAddUp}
use Rattle.hm_outside.specs.Faults.{Faults, one_more, IsQuiet}
use Rattle.hm_outside.specs.Puts.{Puts}
use Rattle.hm_outside.specs.declared.device.NotPut.{NotPut}
use Rattle.hm_outside.specs.declared.device.NotPut.TheVariants as not_put
use Rattle.hm_rules.specs.RunText.{line_of, packet_lines}
use Rattle.hm_show.specs.Verdicts.{end_of}
use Rattle.hm_show.specs.Shows.{max_frames, HasRead, IsVerdict, closing_text, shown_of, IsShown, IsCutShow, IsPartialShow, Shows}
use Rattle.hm_show.specs.Steps.{TakesSome, IsHalt, answer_of}
use Rattle.hm_show.specs.declared.verdict.Verdict.{Verdict}
use Rattle.hm_show.specs.declared.verdict.Verdict.TheVariants as verdict

-- ---- lines of packets

pub packet_lines-append : (i : ℕ) (ms ns : List Message) → packet_lines i (ms ++ ns) ≡ packet_lines i ms ++ packet_lines (i + length ms) ns
packet_lines-append i [] ns = ap (λ (k : ℕ). packet_lines k ns) (omega arith)
packet_lines-append i (m ∷ ms) ns =
    let line = line_of (codes "packet" ∷ decimal i ∷ packet_text m ∷ []) in
    ap (λ (l : List ℕ). line ++ l) (packet_lines-append (i + 1) ms ns)
    ∙ sym (append_assoc line (packet_lines (i + 1) ms) (packet_lines (i + 1 + length ms) ns))
    ∙ ap (λ (k : ℕ). (line ++ packet_lines (i + 1) ms) ++ packet_lines k ns) (omega arith)

-- ---- packets that were taken

all-append : (ms ns : List Message) → AllByRecursion HasSpelling ms → AllByRecursion HasSpelling ns → AllByRecursion HasSpelling (ms ++ ns)
all-append [] ns all also = also
all-append (m ∷ ms) ns all also = (all.0, all-append ms ns all.1 also)

pub takes_none : (held text : List ℕ) (count : ℕ) → count ≤ max_frames → TakesSome held held count count text text
takes_none held text count few = record {
  packets = [];
  lawful = tt;
  parts = refl;
  counted = omega arith;
  few = few;
  lines = sym (append-nil text);
}

-- a packet's line, as it is written
pub line_written : (text number words : List ℕ) → ((((text ++ codes "packet ") ++ number) ++ 32 ∷ []) ++ words) ++ 10 ∷ [] ≡ text ++ (line_of (codes "packet" ∷ number ∷ words ∷ []) ++ [])
line_written text number words = simp (append_assoc, append-nil)

pub takes_more : (old mid new text out more : List ℕ) (before at after : ℕ) (m : Message) → TakesSome old mid before at text out → Takes m mid new
    → at < max_frames → after ≡ at + 1 → more ≡ out ++ packet_lines after (m ∷ []) → TakesSome old new before after text more
takes_more old mid new text out more before at after m p taken few next lines =
    let counted : at ≡ before + length p.packets = p.counted in
    let number : after ≡ before + 1 + length p.packets = omega arith in
    let one : flat_map frame (p.packets ++ m ∷ []) ≡ flat_map frame p.packets ++ frame m =
    flat_map-append frame p.packets (m ∷ []) ∙ ap (λ (l : List ℕ). flat_map frame p.packets ++ l) (append-nil (frame m)) in
    record {
      packets = p.packets ++ m ∷ [];
      lawful = all-append p.packets (m ∷ []) p.lawful (taken.lawful, tt);
      parts =
          p.parts
          ∙ ap (λ (l : List ℕ). flat_map frame p.packets ++ l) taken.parts
          ∙ sym (append_assoc (flat_map frame p.packets) (frame m) new)
          ∙ ap (λ (l : List ℕ). l ++ new) (sym one);
      counted = omega (arith, length-append p.packets (m ∷ []));
      few = omega arith;
      lines =
          lines
          ∙ ap (λ (l : List ℕ). l ++ packet_lines after (m ∷ [])) p.lines
          ∙ append_assoc text (packet_lines (before + 1) p.packets) (packet_lines after (m ∷ []))
          ∙ ap (λ (k : ℕ). text ++ (packet_lines (before + 1) p.packets ++ packet_lines k (m ∷ []))) number
          ∙ ap (λ (l : List ℕ). text ++ l) (sym (packet_lines-append (before + 1) p.packets (m ∷ [])));
    }

-- ---- how far a show has come

-- the lines of the packets taken were put
pub record Showing (count : ℕ) (held_bytes : List ℕ) (left now held put : Option (List ℕ)) : Type 0 where
  pub packets : List Message
  pub has_read : HasRead packets held_bytes left now
  pub counted : count ≡ length packets
  pub written : Appends held put (packet_lines 1 packets)
  pub small : length held_bytes < 131072

-- they were made, and some of them were put
pub record Made (count : ℕ) (held_bytes out : List ℕ) (left now held put : Option (List ℕ)) : Type 0 where
  pub packets : List Message
  pub has_read : HasRead packets held_bytes left now
  pub counted : count ≡ length packets
  pub so_far : List ℕ
  pub written : Appends held put so_far
  pub lines : so_far ++ out ≡ packet_lines 1 packets

pub made : (old new text out : List ℕ) (before after : ℕ) (left now held put : Option (List ℕ)) → Showing before old left now held put → text ≡ [] → TakesSome old new before after text out → Made after new out left now held put
made old new text out before after left now held put p none taken =
    let counted : before ≡ length p.packets = p.counted in
    let more : after ≡ before + length taken.packets = taken.counted in
    let both : length (p.packets ++ taken.packets) ≡ length p.packets + length taken.packets = length-append p.packets taken.packets in
    let few : after ≤ max_frames = taken.few in
    let number : before + 1 ≡ 1 + length p.packets = omega arith in
    let bytes : flat_map frame p.packets ++ old ≡ flat_map frame (p.packets ++ taken.packets) ++ new =
    ap (λ (l : List ℕ). flat_map frame p.packets ++ l) taken.parts
    ∙ sym (append_assoc (flat_map frame p.packets) (flat_map frame taken.packets) new)
    ∙ ap (λ (l : List ℕ). l ++ new) (sym (flat_map-append frame p.packets taken.packets)) in
    record {
      packets = p.packets ++ taken.packets;
      has_read = record {
        lawful = all-append p.packets taken.packets p.has_read.lawful taken.lawful;
        few = omega arith;
        read = subst (Consumes left now) bytes p.has_read.read;
      };
      counted = omega arith;
      so_far = packet_lines 1 p.packets;
      written = p.written;
      lines =
          ap (λ (l : List ℕ). packet_lines 1 p.packets ++ l) (taken.lines ∙ ap (λ (l : List ℕ). l ++ packet_lines (before + 1) taken.packets) none ∙ ap (λ (k : ℕ). packet_lines k taken.packets) number)
          ∙ sym (packet_lines-append 1 p.packets taken.packets);
    }

-- a part of a frame is short
pub part_len : (bytes : List ℕ) → IsPart bytes → length bytes < head_len + max_payload_len
part_len bytes (inl short) = let short' : length bytes < head_len = short in omega arith
part_len bytes (inr lacks) =
    let short : length bytes < head_len + payload_len bytes = lacks.short in
    let few : payload_len bytes ≤ max_payload_len = lacks.lawful in
    omega arith

pub partial_showing : (count : ℕ) (rest : List ℕ) (left now held put : Option (List ℕ)) → Showing count rest left now held put → IsPartialShow left now held put
partial_showing count rest left now held put p = record {
  packets = p.packets;
  rest = rest;
  has_read = p.has_read;
  closing = [];
  closes = inl refl;
  text = packet_lines 1 p.packets;
  front = record { rest = []; parts = refl };
  written = p.written;
}

-- what is answered after the whole text
shows_whole : (v : Verdict) (count : ℕ) (left now held put : Option (List ℕ)) (f : Faults) → IsQuiet f → IsShown v count left now held put → Shows (shown_of v count) left now held put f
shows_whole verdict.Whole count left now held put f quiet p = (quiet, count, p)
shows_whole (verdict.Bad fault) count left now held put f quiet p = (quiet, count, refl, p)
shows_whole verdict.Long count left now held put f quiet p = (quiet, count, refl, p)

-- what is as it was had nothing taken from it
kept_takes : (now later : Option (List ℕ)) → Keeps now later → Consumes now later []
kept_takes None later kept = tt
kept_takes (Some x) None kept = absurd kept
kept_takes (Some x) (Some y) kept = sym kept

-- the next packet wasn't taken
pub halted : (v : Verdict) (packets : List Message) (after : ℕ) (rest : List ℕ) (now : Option (List ℕ)) → after ≡ length packets → IsHalt (Some v) after rest → IsVerdict v packets rest now
halted verdict.Whole packets after rest now counted halt = absurd halt
halted (verdict.Bad fault) packets after rest now counted halt = let few : after < max_frames = halt.0 in (omega arith, inl halt.1)
halted verdict.Long packets after rest now counted halt = (sym counted ∙ halt.0, halt.1)

-- the input ended
pub ended : (packets : List Message) (after : ℕ) (rest : List ℕ) (now : Option (List ℕ)) → after ≡ length packets → IsHalt None after rest → IsAtEnd now → IsVerdict (end_of (length rest)) packets rest now
ended packets after [] now counted halt end = (refl, end)
ended packets after (b ∷ bs) now counted halt end =
    let some : 0 < suc (length bs) = omega arith in
    let few : after < max_frames = halt.1 some in
    (omega arith, inr (record { some = some; part = halt.0; end = end; fault_is = refl }))

-- ---- over calls of a source and a sink

module _ (law : CallsAddUp) where
  pub showing_start : (left held : Option (List ℕ)) → Showing 0 [] left left held held
  showing_start left held = record {
    packets = [];
    has_read = record { lawful = tt; few = lit≤ tt; read = law.takes_none left };
    counted = refl;
    written = law.puts_none held;
    small = lit< tt;
  }

  -- all lines were put
  pub made_put : (count : ℕ) (held_bytes out : List ℕ) (left now held mid put : Option (List ℕ)) → Made count held_bytes out left now held mid → Appends mid put out → Made count held_bytes [] left now held put
  made_put count held_bytes out left now held mid put p written = record {
    packets = p.packets;
    has_read = p.has_read;
    counted = p.counted;
    so_far = packet_lines 1 p.packets;
    written = subst (Appends held put) p.lines (law.puts_both held mid put p.so_far out p.written written);
    lines = append-nil (packet_lines 1 p.packets);
  }

  -- further bytes were read
  pub has_read_on : (packets : List Message) (rest more : List ℕ) (left now later : Option (List ℕ)) → HasRead packets rest left now → Consumes now later more → HasRead packets (rest ++ more) left later
  has_read_on packets rest more left now later p read = record {
    lawful = p.lawful;
    few = p.few;
    read = subst (Consumes left later) (append_assoc (flat_map frame packets) rest more) (law.takes_both left now later (flat_map frame packets ++ rest) more p.read read);
  }

  has_read_kept : (packets : List Message) (rest : List ℕ) (left now later : Option (List ℕ)) → HasRead packets rest left now → Keeps now later → HasRead packets rest left later
  has_read_kept packets rest left now later p kept = record {
    lawful = p.lawful;
    few = p.few;
    read = subst (Consumes left later) (append-nil (flat_map frame packets ++ rest)) (law.takes_both left now later (flat_map frame packets ++ rest) [] p.read (kept_takes now later kept));
  }

  pub showing_more : (count : ℕ) (rest more fed : List ℕ) (left now later held put : Option (List ℕ)) → Made count rest [] left now held put → IsPart rest → Consumes now later more → length more ≤ 65536
      → fed ≡ rest ++ more → Showing count fed left later held put
  showing_more count rest more fed left now later held put p part read few is =
      let short : length rest < head_len + max_payload_len = part_len rest part in
      let both : length (rest ++ more) ≡ length rest + length more = length-append rest more in
      record {
        packets = p.packets;
        has_read = subst (λ (l : List ℕ). HasRead p.packets l left later) (sym is) (has_read_on p.packets rest more left now later p.has_read read);
        counted = p.counted;
        written = subst (Appends held put) (sym (append-nil p.so_far) ∙ p.lines) p.written;
        small = omega (arith, ap length is);
      }

  -- a front of the lines was put
  pub partial_lines : (count : ℕ) (rest out front : List ℕ) (left now held mid put : Option (List ℕ)) → Made count rest out left now held mid → IsPrefix front out → Appends mid put front → IsPartialShow left now held put
  partial_lines count rest out front left now held mid put p is_front written = record {
    packets = p.packets;
    rest = rest;
    has_read = p.has_read;
    closing = [];
    closes = inl refl;
    text = p.so_far ++ front;
    front = record {
      rest = is_front.rest;
      parts = append_assoc p.so_far front is_front.rest ∙ ap (λ (l : List ℕ). p.so_far ++ l) is_front.parts ∙ p.lines ∙ sym (append-nil (packet_lines 1 p.packets));
    };
    written = law.puts_both held mid put p.so_far front p.written written;
  }

  -- memory was wanting for bytes that were read
  pub partial_read : (count : ℕ) (rest more : List ℕ) (left now later held put : Option (List ℕ)) → Made count rest [] left now held put → Consumes now later more → IsPartialShow left later held put
  partial_read count rest more left now later held put p read = record {
    packets = p.packets;
    rest = rest ++ more;
    has_read = has_read_on p.packets rest more left now later p.has_read read;
    closing = [];
    closes = inl refl;
    text = p.so_far;
    front = record { rest = []; parts = ap (λ (l : List ℕ). l ++ []) (sym (append-nil p.so_far) ∙ p.lines) };
    written = p.written;
  }

  pub cut_show : (count : ℕ) (rest : List ℕ) (left now later held put : Option (List ℕ)) → Made count rest [] left now held put → IsPart rest → Keeps now later → IsCutShow left later held put
  cut_show count rest left now later held put p part kept = record {
    packets = p.packets;
    rest = rest;
    has_read = has_read_kept p.packets rest left now later p.has_read kept;
    part = part;
    written = subst (Appends held put) (sym (append-nil p.so_far) ∙ p.lines) p.written;
  }

  -- the text with its end, or a front of it
  closed_front : (v : Verdict) (count : ℕ) (rest out front : List ℕ) (left now held mid put : Option (List ℕ)) (p : Made count rest out left now held mid) → IsVerdict v p.packets rest now
      → IsPrefix front (out ++ closing_text v count) → Appends mid put front → IsPartialShow left now held put
  closed_front v count rest out front left now held mid put p is_verdict is_front written = record {
    packets = p.packets;
    rest = rest;
    has_read = p.has_read;
    closing = closing_text v count;
    closes = inr (v, is_verdict, ap (closing_text v) p.counted);
    text = p.so_far ++ front;
    front = record {
      rest = is_front.rest;
      parts =
          append_assoc p.so_far front is_front.rest
          ∙ ap (λ (l : List ℕ). p.so_far ++ l) is_front.parts
          ∙ sym (append_assoc p.so_far out (closing_text v count))
          ∙ ap (λ (l : List ℕ). l ++ closing_text v count) p.lines;
    };
    written = law.puts_both held mid put p.so_far front p.written written;
  }

  pub shows_closed : {T : Type 0} (closed : Result T NotPut) (v : Verdict) (count : ℕ) (rest out : List ℕ) (left now held mid put : Option (List ℕ)) (f : Faults) (middle : ℕ) (p : Made count rest out left now held mid)
      → IsVerdict v p.packets rest now → f.read_after ≡ f.read_before → middle ≡ f.put_before → Puts closed (out ++ closing_text v count) mid put middle f.put_after
      → Shows (answer_of closed (shown_of v count)) left now held put f
  shows_closed (Ok done) v count rest out left now held mid put f middle p is_verdict read same all =
      let text : p.so_far ++ (out ++ closing_text v count) ≡ packet_lines 1 p.packets ++ closing_text v count =
      sym (append_assoc p.so_far out (closing_text v count)) ∙ ap (λ (l : List ℕ). l ++ closing_text v count) p.lines in
      shows_whole v count left now held put f (record { read = read; put = all.1 ∙ same })
      (record {
        packets = p.packets;
        rest = rest;
        has_read = p.has_read;
        count_is = sym p.counted;
        verdict = is_verdict;
        written = subst (Appends held put) text (law.puts_both held mid put p.so_far (out ++ closing_text v count) p.written all.0);
      })
  shows_closed (Err not_put.Failed) v count rest out left now held mid put f middle p is_verdict read same part =
      (record { read = read; put = part.counted ∙ ap one_more same }, closed_front v count rest out part.front left now held mid put p is_verdict part.is_front part.written)
  shows_closed (Err not_put.NoMemory) v count rest out left now held mid put f middle p is_verdict read same none =
      (record { read = read; put = none.1 ∙ same }, closed_front v count rest out [] left now held mid put p is_verdict (record { rest = out ++ closing_text v count; parts = refl }) none.0)

  -- the same with nothing read at the end
  pub made_end : (count : ℕ) (rest : List ℕ) (taken : List ℕ) (left now later held put : Option (List ℕ)) → Made count rest [] left now held put → taken ≡ [] → Consumes now later taken → Made count rest [] left later held put
  made_end count rest taken left now later held put p none read = record {
    packets = p.packets;
    has_read = subst (λ (l : List ℕ). HasRead p.packets l left later) (append-nil rest) (has_read_on p.packets rest [] left now later p.has_read (subst (Consumes now later) none read));
    counted = p.counted;
    so_far = p.so_far;
    written = p.written;
    lines = p.lines;
  }

  -- where the input ended
  pub shows_ended : {T : Type 0} (closed : Result T NotPut) (v : Verdict) (count held_len : ℕ) (rest text : List ℕ) (left now held mid put : Option (List ℕ)) (f : Faults) (middle : ℕ) → Made count rest [] left now held mid
      → held_len ≡ length rest → v ≡ end_of held_len → text ≡ [] → IsHalt None count rest → IsAtEnd now → f.read_after ≡ f.read_before → middle ≡ f.put_before
      → Puts closed (text ++ closing_text v count) mid put middle f.put_after → Shows (answer_of closed (shown_of v count)) left now held put f
  shows_ended closed v count held_len rest text left now held mid put f middle p held_is v_is none halt end read same puts =
      let v_here : v ≡ end_of (length rest) = v_is ∙ ap end_of held_is in
      shows_closed closed v count rest [] left now held mid put f middle p (subst (λ (w : Verdict). IsVerdict w p.packets rest now) (sym v_here) (ended p.packets count rest now p.counted halt end)) read same
      (subst (λ (l : List ℕ). Puts closed (l ++ closing_text v count) mid put middle f.put_after) none puts)
