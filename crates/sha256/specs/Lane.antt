-- Several messages side by side: lane j of each value belongs to message j. What a lane of a value W is, `lane` says.
use Rattle.std.specs.Prelude.{ℕ, List, map}
use Rattle.sha256.specs.declared.state.State.{State}

-- lane j of a state
unfoldable pub state_at : {W : Type 0} → (W → ℕ → ℕ) → State W → ℕ → State ℕ
state_at lane s j =
    record {
      a = lane s.a j;
      b = lane s.b j;
      c = lane s.c j;
      d = lane s.d j;
      e = lane s.e j;
      f = lane s.f j;
      g = lane s.g j;
      h = lane s.h j;
    }

-- lane j of each value of a list, as of the message schedule
unfoldable pub column : {W : Type 0} → (W → ℕ → ℕ) → List W → ℕ → List ℕ
column lane w j = map (λ x. lane x j) w
