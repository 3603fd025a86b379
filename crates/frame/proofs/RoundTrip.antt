-- Reading what was written gives the message. Assumes nothing.
use Rattle.std.proofs.Common.{◌≡◌, ℕ, ◌+◌, ◌*◌, ◌/◌, ◌%◌, ◌≤◌, Bool, true, false, cond, eqb, ltb, List, [], ◌∷◌, ◌++◌, length, get_or, Some, None, sym, refl, ap, ◌∙◌, arith}
use Rattle.std.proofs.lemmas.Bool.Decides.{nat_tests}
use Rattle.std.proofs.lemmas.Bool.{le-ltb, lt-ltb, cond-true}
use Rattle.std.specs.Option.{option_map}
use Rattle.frame.specs.declared.types.Body.{Body}
use Rattle.frame.specs.declared.types.Body.TheVariants.{Event, Signal}
use Rattle.frame.specs.declared.types.Channel.{Channel}
use Rattle.frame.specs.declared.types.Message.{Message}
use Rattle.frame.specs.declared.types.Request.{Request}
use Rattle.frame.specs.declared.types.Request.TheVariants.{NoRequest, RplBlocked, ManualSwitch, SignalFail, ForcedSwitch}
use Rattle.frame.specs.Reading.{reading, first_difference, pdu_reading, body_reading, body_of, node_of, request_of}
use Rattle.frame.specs.Refusals.{gave}
use Rattle.frame.specs.Requests.{coded, event_code}
use Rattle.frame.specs.Writing.{frame_octets, head_octets, in_range, request_octet, status_octet}
use Rattle.frame.proofs.Status.{status_bits}

request_back : (r : Request) (dnf bpr : Bool)
    → cond (eqb ((coded r).code * 16 / 16) event_code) (cond (eqb ((coded r).code * 16 % 16) 0) (Some Event) None)
    (option_map (λ q. Signal q dnf bpr) (request_of ((coded r).code * 16 / 16) (coded r).rb))
    ≡ Some (Signal r dnf bpr)
request_back NoRequest dnf bpr = refl
request_back RplBlocked dnf bpr = refl
request_back ManualSwitch dnf bpr = refl
request_back SignalFail dnf bpr = refl
request_back ForcedSwitch dnf bpr = refl

-- the request octet and the status octet of a body say that body
pub body_back : (b : Body) → body_of (request_octet b) (status_octet b) ≡ Some b
body_back Event = refl
body_back (Signal r dnf bpr) =
    let s = status_bits (coded r).rb dnf bpr in
    simp (s.rb_bit, s.dnf_bit, s.bpr_bit) (request_back r dnf bpr)

header_back : (m : Message) (c : Channel) (mel : ℕ) (t : List ℕ) → in_range m.node c mel ≡ true
    → first_difference (frame_octets m c mel ++ t) c ≡ None
unfolding frame_octets head_octets
header_back m c mel t h = grind (arith, nat_tests)

six : (o : List ℕ) → length o ≡ 6
    → o ≡ get_or o 0 0 ∷ get_or o 1 0 ∷ get_or o 2 0 ∷ get_or o 3 0 ∷ get_or o 4 0 ∷ get_or o 5 0 ∷ []
six [] e = absurd (omega arith)
six (o₀ ∷ []) e = absurd (omega arith)
six (o₀ ∷ o₁ ∷ []) e = absurd (omega arith)
six (o₀ ∷ o₁ ∷ o₂ ∷ []) e = absurd (omega arith)
six (o₀ ∷ o₁ ∷ o₂ ∷ o₃ ∷ []) e = absurd (omega arith)
six (o₀ ∷ o₁ ∷ o₂ ∷ o₃ ∷ o₄ ∷ []) e = absurd (omega arith)
six (o₀ ∷ o₁ ∷ o₂ ∷ o₃ ∷ o₄ ∷ o₅ ∷ []) e = refl
six (o₀ ∷ o₁ ∷ o₂ ∷ o₃ ∷ o₄ ∷ o₅ ∷ o₆ ∷ o) e = absurd (omega arith)

abbrev made : Body → List ℕ → Message
made b o = record { node = record { octets = o }; body = b }

long : (m : Message) (c : Channel) (mel : ℕ) (t : List ℕ) → 55 ≤ length (frame_octets m c mel ++ t)
unfolding frame_octets head_octets
long m c mel t = omega arith

fits : (m : Message) (c : Channel) (mel : ℕ) (t : List ℕ) (b : Body)
    → body_reading (frame_octets m c mel ++ t) (Some b) ≡ gave (record { node = node_of (frame_octets m c mel ++ t); body = b })
unfolding frame_octets head_octets
fits m c mel t b =
    let inside : ltb (22 + 32) (length (frame_octets m c mel ++ t)) ≡ true = lt-ltb _ _ (long m c mel t) in
    cond-true _ _ _ inside

pdu_back : (m : Message) (c : Channel) (mel : ℕ) (t : List ℕ) → length m.node.octets ≡ 6
    → pdu_reading (frame_octets m c mel ++ t) ≡ gave m
unfolding frame_octets head_octets
pdu_back m c mel t n =
    ap (body_reading (frame_octets m c mel ++ t)) (body_back m.body)
    ∙ fits m c mel t m.body ∙ ap (λ o. gave (made m.body o)) (sym (six m.node.octets n))

pub round_trip : (m : Message) (c : Channel) (mel : ℕ) (t : List ℕ) → length m.node.octets ≡ 6
    → in_range m.node c mel ≡ true → reading (frame_octets m c mel ++ t) c ≡ gave m
unfolding reading
round_trip m c mel t n h =
    let e : ltb (length (frame_octets m c mel ++ t)) 55 ≡ false = le-ltb _ _ (long m c mel t) in
    simp (e, header_back m c mel t h, pdu_back m c mel t n)
