-- What holds of a row of checks: it holds of each refusal, and of what comes of the row.
use Rattle.std.proofs.Common.{◌≡◌, Bool, true, false, Option, Some, None, Result, Ok, Err, refl}
use Rattle.vh_base.specs.Checks.{unless, with_some, with_ok}

pub unless-holds : {A E : Type 0} (P : Result A E → Type 0) (b : Bool) (e : E) (rest : Result A E)
    → (b ≡ true → P (Err e)) → (b ≡ false → P rest) → P (unless b e rest)
unless-holds P true e rest refused goes = refused refl
unless-holds P false e rest refused goes = goes refl

pub with_some-holds : {X A E : Type 0} (P : Result A E → Type 0) (o : Option X) (e : E) (rest : X → Result A E)
    → (o ≡ None → P (Err e)) → ((x : X) → o ≡ Some x → P (rest x)) → P (with_some o e rest)
with_some-holds P None e rest refused goes = refused refl
with_some-holds P (Some x) e rest refused goes = goes x refl

pub with_ok-holds : {X A E : Type 0} (P : Result A E → Type 0) (o : Result X E) (rest : X → Result A E)
    → ((e : E) → o ≡ Err e → P (Err e)) → ((x : X) → o ≡ Ok x → P (rest x)) → P (with_ok o rest)
with_ok-holds P (Err e) rest refused goes = refused e refl
with_ok-holds P (Ok x) rest refused goes = goes x refl
