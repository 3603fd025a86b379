-- What a refusal tells its caller, the same for every library. Assumes nothing.
use Rattle.std.specs.Prelude.{ℕ, Some, None, Option}

-- the library that refuses
pub data Layer : Type 0 where
  by_frame by_fabric by_node by_ring : Layer

-- the number of the refusal, who refuses, and the places that it names
pub record Refusal : Type 0 where
  pub number : ℕ
  pub layer : Layer
  pub station : Option ℕ
  pub port : Option ℕ
  pub octet : Option ℕ

-- a refusal that names no place, one port, one octet
abbrev pub nowhere : Layer → ℕ → Refusal
nowhere l n = record { number = n; layer = l; station = None; port = None; octet = None }

abbrev pub at_port : Layer → ℕ → ℕ → Refusal
at_port l n p = record { number = n; layer = l; station = None; port = Some p; octet = None }

abbrev pub at_octet : Layer → ℕ → ℕ → Refusal
at_octet l n o = record { number = n; layer = l; station = None; port = None; octet = Some o }

-- what a call answers: a value, or a refusal
pub data Answer (X : Type 0) : Type 0 where
  gave : X → Answer X
  refused : Refusal → Answer X
