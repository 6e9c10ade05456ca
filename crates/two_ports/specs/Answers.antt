-- What a call of a card with two ports gives back, beside lent memory.
use Rattle.std.specs.Prelude.{ℕ}
use Rattle.two_ports.specs.declared.Ports.{Ports}

-- a refusal's number, or 0, and the state after
pub record PortsAfter : Type 0 where
  pub refusal : ℕ
  pub ports : Ports

-- a refusal's number, or 0, the state after, and the word that the port will send, 0 where refused
pub record PortsTold : Type 0 where
  pub refusal : ℕ
  pub ports : Ports
  pub word : ℕ
