-- What is known of a key: its device address is the panel's, and it has bytes. Assumes nothing.
use Prim.Native.Nat.{ℕ, ◌/◌, ◌%◌, ◌<◌}
use mathlib.Core.Path.{◌≡◌}
use mathlib.Core.Bool.{Bool, true, false, cond, ◌&&◌}
use native.Mathlib.Omega.{arith}
use lib.Dec.{eqb}
use Rattle.common.proofs.Choice.{of_cond}
use Rattle.std.specs.Prelude.{Option, Some, None}
use Rattle.remote.specs.declared.RemoteKey.{RemoteKey}
use Rattle.remote.specs.Frame.{NEC, RC5, complements, remote_key, nec_key, rc5_key, sent_by, addressed, addressed_key, key_of}

-- a key has bytes
abbrev Bytes : Option RemoteKey → Type 0
Bytes (Some k) = (k.address < 256) × (k.command < 256)
Bytes None = Unit

tested_bytes : (b : Bool) (a c : ℕ) → a < 256 → c < 256 → Bytes (cond b (Some (remote_key a c)) None)
tested_bytes true a c h k = (h, k)
tested_bytes false a c h k = tt

nec_bytes : (f : ℕ) → Bytes (nec_key f)
unfolding nec_key
nec_bytes f =
    tested_bytes (complements (f % 256) (f / 256 % 256) && complements (f / 65_536 % 256) (f / 16_777_216 % 256)) (f % 256)
    (f / 65_536 % 256) (omega arith) (omega arith)

rc5_bytes : (f : ℕ) → Bytes (rc5_key f)
unfolding rc5_key
rc5_bytes f = tested_bytes (eqb (f / 4_096) 3) (f / 64 % 32) (f % 64) (omega arith) (omega arith)

sent_bytes : (p f : ℕ) → Bytes (sent_by p f)
unfolding sent_by
sent_bytes p f =
    of_cond Bytes (eqb p NEC) (nec_key f) (cond (eqb p RC5) (rc5_key f) None) (λ e. nec_bytes f)
    (λ e. of_cond Bytes (eqb p RC5) (rc5_key f) None (λ d. rc5_bytes f) (λ d. tt))

-- a key has the panel's device address, and bytes
pub record IsAddressed (a c : ℕ) : Type 0 where
  pub is_addressed : addressed a ≡ true
  pub address : a < 256
  pub command : c < 256

abbrev pub Addressed : Option RemoteKey → Type 0
Addressed (Some k) = IsAddressed k.address k.command
Addressed None = Unit

all_addressed : (r : Option RemoteKey) → Bytes r → Addressed (addressed_key r)
all_addressed (Some k) h = of_cond Addressed (addressed k.address) (Some k) None (λ e. record { is_addressed = e; address = h.0; command = h.1 }) (λ e. tt)
all_addressed None h = tt

pub key_addressed : (p f : ℕ) → Addressed (key_of p f)
unfolding key_of
key_addressed p f = all_addressed (sent_by p f) (sent_bytes p f)
