-- A frame that was read, written again. Assumes nothing.
use Rattle.std.proofs.Common.{◌≡◌, ℕ, zero, suc, ◌+◌, ◌*◌, ◌/◌, ◌%◌, ◌<◌, ◌≤◌, Bool, true, false, cond, List, [], ◌∷◌, ◌++◌, get_or, replicate, Some, None, Option, sym, refl, ap, ◌∙◌, le_of_suc-le-suc, arith, below_none, below_more}
use Rattle.std.proofs.lemmas.List.{get_or-drop}
use Rattle.std.proofs.lemmas.Bool.Decides.{nat_tests}
use Rattle.std.proofs.lemmas.Bool.{eqb-true, ltb-false}
use Rattle.frame.specs.declared.types.Body.{Body}
use Rattle.frame.specs.declared.types.Body.TheVariants.{Event, Signal}
use Rattle.frame.specs.declared.types.Channel.{Channel}
use Rattle.frame.specs.declared.types.Message.{Message}
use Rattle.frame.specs.declared.types.NodeId.{NodeId}
use Rattle.frame.specs.declared.types.Request.{Request}
use Rattle.frame.specs.declared.types.Request.TheVariants.{NoRequest, RplBlocked, ManualSwitch, SignalFail, ForcedSwitch}
use Rattle.frame.specs.Reading.{reading, first_unequal, first_difference, header_octets, body_reading, header_reading, then, body_of, node_of, bit}
use Rattle.frame.specs.Refusals.{Answer, gave, refused, Refusal}
use Rattle.frame.specs.Requests.{coded, event_code}
use Rattle.frame.specs.Rewriting.{Rewritten}
use Rattle.frame.specs.Writing.{frame_octets, head_octets, in_range, request_octet, status_octet}
use Rattle.frame.proofs.Status.{status_bits}

-- an answer that is no refusal
not_refused : {X : Type 0} (r : Refusal) (x : X) → refused r ≡ gave x → ⊥
not_refused r x e = let z : ◌≡◌ {A = ℕ} 0 1 = cc in omega arith

pass : {X : Type 0} (b : Bool) (r : Refusal) (next : Answer X) (x : X) → cond b (refused r) next ≡ gave x → (b ≡ false) × (next ≡ gave x)
pass true r next x e = absurd (not_refused r x e)
pass false r next x e = (refl, e)

meet : {X : Type 0} (b : Bool) (r : Refusal) (next : Answer X) (x : X) → cond b next (refused r) ≡ gave x → (b ≡ true) × (next ≡ gave x)
meet true r next x e = (refl, e)
meet false r next x e = absurd (not_refused r x e)

header_none : (o : Option ℕ) (next : Answer Message) (m : Message) → then (header_reading o) next ≡ gave m
    → (o ≡ None) × (next ≡ gave m)
header_none None next m e = (refl, e)
header_none (Some k) next m e = absurd (not_refused _ m e)

body_some : (f : List ℕ) (o : Option Body) (m : Message) → body_reading f o ≡ gave m → (o ≡ Some m.body) × (m.node ≡ node_of f)
body_some f None m e = absurd (not_refused _ m e)
body_some f (Some b) m e =
    let told : Message = record { node = node_of f; body = b } in
    let g : gave told ≡ gave m = (meet _ _ _ m e).1 in
    let same : m ≡ told = cc in
    (ap (λ (x : Message). Some x.body) (sym same), ap (λ (x : Message). x.node) same)

-- what a frame that is read as a message has
record WasRead (f : List ℕ) (c : Channel) (m : Message) : Type 0 where
  header : first_difference f c ≡ None
  opcode : get_or f 19 0 ≡ 0x28
  offset : 32 ≤ get_or f 21 0
  body : body_of (get_or f 22 0) (get_or f 23 0) ≡ Some m.body
  node : m.node ≡ node_of f

was_read : (f : List ℕ) (c : Channel) (m : Message) → reading f c ≡ gave m → WasRead f c m
unfolding reading
was_read f c m e =
    let long = pass _ _ _ m e in
    let head = header_none _ _ m long.1 in
    let code = meet _ _ _ m head.1 in
    let tlv = pass _ _ _ m code.1 in
    let said = body_some f _ m tlv.1 in
    record {
      header = head.0;
      opcode = eqb-true _ _ code.0;
      offset = ltb-false _ _ tlv.0;
      body = said.0;
      node = said.1;
    }

cond_none : (b : Bool) (o : Option ℕ) (k : ℕ) → cond b o (Some k) ≡ None → (b ≡ true) × (o ≡ None)
cond_none true o k e = (refl, e)
cond_none false o k e = absurd cc

all_same : (xs : List (ℕ × ℕ × ℕ)) → first_unequal xs ≡ None → (i : ℕ) → (get_or xs i (0, 0, 0)).1 ≡ (get_or xs i (0, 0, 0)).2
all_same [] e i = refl
all_same (x ∷ xs) e zero = eqb-true _ _ (cond_none _ _ _ e).0
all_same (x ∷ xs) e (suc i) = all_same xs (cond_none _ _ _ e).1 i

-- what the request octet q and the status octet s of a frame say of its body, written again
record BodyAgain (q s : ℕ) (b : Body) : Type 0 where
  request : request_octet b / 16 ≡ q / 16
  sub_code : request_octet b % 16 ≡ 0
  event_sub_code : q / 16 ≡ event_code → q % 16 ≡ 0
  rb : q / 16 ≡ 0 → bit 128 (status_octet b) ≡ bit 128 s
  no_rb : (q / 16 ≡ 0 → ⊥) → status_octet b / 128 ≡ 0
  dnf : (q / 16 ≡ event_code → ⊥) → bit 64 (status_octet b) ≡ bit 64 s
  bpr : (q / 16 ≡ event_code → ⊥) → bit 32 (status_octet b) ≡ bit 32 s
  reserved_bits : status_octet b % 32 ≡ 0
  event_status : q / 16 ≡ event_code → status_octet b ≡ 0

signal_again : (q s : ℕ) (r : Request) (d p : Bool) → body_of q s ≡ Some (Signal r d p)
    → (q / 16 ≡ (coded r).code) × (q / 16 ≡ 0 → bit 128 s ≡ (coded r).rb) × (d ≡ bit 64 s) × (p ≡ bit 32 s)
signal_again q s r d p e = grind (arith, nat_tests)

-- the codes of the requests: four bits, none an event's, and RB only with NR's
record CodesApart (r : Request) : Type 0 where
  whole : (coded r).code * 16 / 16 ≡ (coded r).code
  clean : (coded r).code * 16 % 16 ≡ 0
  no_event : (coded r).code ≡ event_code → ⊥
  only_nr : ((coded r).code ≡ 0 → ⊥) → ◌≡◌ {A = ℕ} (cond (coded r).rb 1 0) 0

codes_apart : (r : Request) → CodesApart r
codes_apart NoRequest = record { whole = refl; clean = refl; no_event = λ z. omega arith; only_nr = λ n. refl }
codes_apart RplBlocked = record { whole = refl; clean = refl; no_event = λ z. omega arith; only_nr = λ n. absurd (n refl) }
codes_apart ManualSwitch = record { whole = refl; clean = refl; no_event = λ z. omega arith; only_nr = λ n. refl }
codes_apart SignalFail = record { whole = refl; clean = refl; no_event = λ z. omega arith; only_nr = λ n. refl }
codes_apart ForcedSwitch = record { whole = refl; clean = refl; no_event = λ z. omega arith; only_nr = λ n. refl }

body_again : (q s : ℕ) (b : Body) → body_of q s ≡ Some b → BodyAgain q s b
body_again q s Event e =
    let event : q / 16 ≡ event_code = grind (arith, nat_tests) in
    let plain : q % 16 ≡ 0 = grind (arith, nat_tests) in
    record {
      request = sym event;
      sub_code = refl;
      event_sub_code = λ _. plain;
      rb = λ z. absurd (omega arith);
      no_rb = λ _. refl;
      dnf = λ n. absurd (n event);
      bpr = λ n. absurd (n event);
      reserved_bits = refl;
      event_status = λ _. refl;
    }
body_again q s (Signal r d p) e =
    let said = signal_again q s r d p e in
    let bits = status_bits (coded r).rb d p in
    let codes = codes_apart r in
    record {
      request = codes.whole ∙ sym said.0;
      sub_code = codes.clean;
      event_sub_code = λ v. absurd (codes.no_event (sym said.0 ∙ v));
      rb = λ z. bits.rb_bit ∙ sym (said.1 z);
      no_rb = λ n. bits.high ∙ codes.only_nr (λ z. n (said.0 ∙ z));
      dnf = λ _. bits.dnf_bit ∙ said.2;
      bpr = λ _. bits.bpr_bit ∙ said.3;
      reserved_bits = bits.low_bits;
      event_status = λ v. absurd (codes.no_event (sym said.0 ∙ v));
    }

-- what holds of each of the first numbers
each_2 : (P : ℕ → Type 0) → P 0 → P 1 → (k : ℕ) → k < 2 → P k
each_2 P a b = below_more P 1 (below_more P 0 (below_none P) a) b

each_3 : (P : ℕ → Type 0) → P 0 → P 1 → P 2 → (k : ℕ) → k < 3 → P k
each_3 P a b c = below_more P 2 (each_2 P a b) c

each_6 : (P : ℕ → Type 0) → P 0 → P 1 → P 2 → P 3 → P 4 → P 5 → (k : ℕ) → k < 6 → P k
each_6 P a b c d e f = below_more P 5 (below_more P 4 (below_more P 3 (each_3 P a b c) d) e) f

zeros : (n : ℕ) (t : List ℕ) (k : ℕ) → k < n → get_or (replicate n 0 ++ t) k 0 ≡ 0
zeros zero t k l = absurd (omega arith)
zeros (suc n) t zero l = refl
zeros (suc n) t (suc k) l = zeros n t k (le_of_suc-le-suc l)

pub again : (f : List ℕ) (m : Message) (c : Channel) (mel : ℕ) (t : List ℕ) → in_range m.node c mel ≡ true
    → reading f c ≡ gave m → Rewritten f mel (frame_octets m c mel ++ t)
unfolding frame_octets head_octets
again f m c mel t h e =
    let was = was_read f c m e in
    let body = body_again _ _ _ was.body in
    let same : (i : ℕ) → (get_or (header_octets f c) i (0, 0, 0)).2 ≡ (get_or (header_octets f c) i (0, 0, 0)).1 = λ i. sym (all_same (header_octets f c) was.header i) in
    let vid : c.vid ≤ 4094 = grind (arith, nat_tests) in
    let high : c.vid / 256 ≡ get_or f 14 0 % 16 = same 8 in
    let id : (k : ℕ) → get_or m.node.octets k 0 ≡ get_or (node_of f).octets k 0 = λ k. ap (λ (n : NodeId). get_or n.octets k 0) was.node in
    let w = frame_octets m c mel ++ t in
    record {
      destination = each_6 (λ k. get_or w k 0 ≡ get_or f k 0) (same 0) (same 1) (same 2) (same 3) (same 4) (same 5);
      source = each_6 (λ k. get_or w (6 + k) 0 ≡ get_or f (24 + k) 0) (id 0) (id 1) (id 2) (id 3) (id 4) (id 5);
      tag = each_2 (λ k. get_or w (12 + k) 0 ≡ get_or f (12 + k) 0) (same 6) (same 7);
      vid_high = omega arith;
      priority = omega arith;
      vid_low_type = each_3 (λ k. get_or w (15 + k) 0 ≡ get_or f (15 + k) 0) (same 9) (same 10) (same 11);
      level = refl;
      opcode = sym was.opcode;
      flags = refl;
      tlv_offset = (refl, was.offset);
      request = body.request;
      sub_code = (body.sub_code, body.event_sub_code);
      rb = body.rb;
      no_rb = body.no_rb;
      dnf = body.dnf;
      bpr = body.bpr;
      reserved_bits = body.reserved_bits;
      event_status = body.event_status;
      node = each_6 (λ k. get_or w (24 + k) 0 ≡ get_or f (24 + k) 0) (id 0) (id 1) (id 2) (id 3) (id 4) (id 5);
      rest = λ k l. sym (get_or-drop 30 w k 0) ∙ zeros 25 t k l;
    }
