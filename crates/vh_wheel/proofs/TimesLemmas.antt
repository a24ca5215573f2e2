-- What holds of the buckets and levels of times.
use Rattle.std.proofs.Common.{◌≡◌, ℕ, zero, suc, ◌+◌, ◌-◌, ◌*◌, ◌<◌, ◌≤◌, ◌/◌, ◌%◌, ◌^◌, refl, ap, arith, ◌∙◌, sym, inl, inr}
use Rattle.std.proofs.lemmas.Bool.{eq-eqb, ne_eqb, cases_eq}
use Rattle.vh_wheel.specs.Schedule.{level_from, moves_of}
use Rattle.vh_wheel.specs.Views.{bucket_from}

pub same-bucket : (k n t : ℕ) → n / 256 ≡ t / 256 → bucket_from (suc k) n t ≡ t % 256
unfolding bucket_from
same-bucket k n t e = rw (eq-eqb (n / 256) (t / 256) e) refl

pub other-bucket : (k n t : ℕ) → (n / 256 ≡ t / 256 → ⊥) → bucket_from (suc k) n t ≡ 256 + bucket_from k (n / 256) (t / 256)
unfolding bucket_from
other-bucket k n t e = rw (ne_eqb (n / 256) (t / 256) e) refl

pub same-level : (k n t : ℕ) → n / 256 ≡ t / 256 → level_from (suc k) n t ≡ 0
unfolding level_from
same-level k n t e = rw (eq-eqb (n / 256) (t / 256) e) refl

pub other-level : (k n t : ℕ) → (n / 256 ≡ t / 256 → ⊥) → level_from (suc k) n t ≡ 1 + level_from k (n / 256) (t / 256)
unfolding level_from
other-level k n t e = rw (ne_eqb (n / 256) (t / 256) e) refl

-- A later time has no lower bucket
pub later-bucket : (k n t u : ℕ) → n ≤ t → t ≤ u → bucket_from k n t ≤ bucket_from k n u
unfolding bucket_from
later-bucket zero n t u h l = l
later-bucket (suc k) n t u h l =
    elim (cases_eq (n / 256) (u / 256)) [
      | inl e ↦
          let f : n / 256 ≡ t / 256 = omega arith in
          omega (arith, same-bucket k n u e, same-bucket k n t f)
      | inr e ↦
          elim (cases_eq (n / 256) (t / 256)) [
            | inl f ↦ omega (arith, other-bucket k n u e, same-bucket k n t f)
            | inr f ↦
                let rest = later-bucket k (n / 256) (t / 256) (u / 256) (omega arith) (omega arith) in
                omega (arith, other-bucket k n u e, other-bucket k n t f, rest)
          ]
    ]

-- A later present time leaves the bucket of a time as it was, but where it has the same one
pub bucket-stays : (k n t u : ℕ) → n ≤ t → t ≤ u → (bucket_from k n u ≡ bucket_from k n t → ⊥) → bucket_from k t u ≡ bucket_from k n u
unfolding bucket_from
bucket-stays zero n t u h l ne = refl
bucket-stays (suc k) n t u h l ne =
    elim (cases_eq (n / 256) (t / 256)) [
      | inl e ↦
          elim (cases_eq (n / 256) (u / 256)) [
            | inl f ↦
                let g : t / 256 ≡ u / 256 = omega arith in
                same-bucket k t u g ∙ sym (same-bucket k n u f)
            | inr f ↦
                let g : t / 256 ≡ u / 256 → ⊥ = λ x. f (omega arith) in
                other-bucket k t u g ∙ ap (λ m. 256 + bucket_from k m (u / 256)) (sym e) ∙ sym (other-bucket k n u f)
          ]
      | inr e ↦
          let f : n / 256 ≡ u / 256 → ⊥ = λ x. e (omega arith) in
          elim (cases_eq (t / 256) (u / 256)) [
            | inl g ↦
                absurd (ne (other-bucket k n u f ∙ ap (λ m. 256 + bucket_from k (n / 256) m) (sym g) ∙ sym (other-bucket k n t e)))
            | inr g ↦
                let other : bucket_from k (n / 256) (u / 256) ≡ bucket_from k (n / 256) (t / 256) → ⊥ =
                λ x. ne (other-bucket k n u f ∙ ap (λ m. 256 + m) x ∙ sym (other-bucket k n t e)) in
                let rest = bucket-stays k (n / 256) (t / 256) (u / 256) (omega arith) (omega arith) other in
                other-bucket k t u g ∙ ap (λ m. 256 + m) rest ∙ sym (other-bucket k n u f)
          ]
    ]

-- Where it has the same one, the level falls
pub level-falls : (k n t u : ℕ) → n ≤ t → t ≤ u → bucket_from k n u ≡ bucket_from k n t → (u ≡ t → ⊥) → level_from k t u < level_from k n u
unfolding bucket_from level_from
level-falls zero n t u h l e ne = absurd (ne e)
level-falls (suc k) n t u h l is ne =
    elim (cases_eq (n / 256) (t / 256)) [
      | inl e ↦
          elim (cases_eq (n / 256) (u / 256)) [
            | inl f ↦ absurd (ne (omega (arith, same-bucket k n u f, same-bucket k n t e)))
            | inr f ↦ absurd (omega (arith, other-bucket k n u f, same-bucket k n t e))
          ]
      | inr e ↦
          let f : n / 256 ≡ u / 256 → ⊥ = λ x. e (omega arith) in
          elim (cases_eq (t / 256) (u / 256)) [
            | inl g ↦ omega (arith, same-level k t u g, other-level k n u f)
            | inr g ↦
                let same : bucket_from k (n / 256) (u / 256) ≡ bucket_from k (n / 256) (t / 256) =
                omega (arith, other-bucket k n u f, other-bucket k n t e) in
                let rest = level-falls k (n / 256) (t / 256) (u / 256) (omega arith) (omega arith) same (λ x. g (sym x)) in
                omega (arith, other-level k t u g, other-level k n u f, rest)
          ]
    ]

-- A bucket of the lowest level has one time
pub low-time : (n t u : ℕ) → bucket_from 7 n t < 256 → bucket_from 7 n u ≡ bucket_from 7 n t → u ≡ t
low-time n t u low same =
    elim (cases_eq (n / 256) (t / 256)) [
      | inl e ↦
          elim (cases_eq (n / 256) (u / 256)) [
            | inl f ↦ omega (arith, same, e, f, same-bucket 6 n t e, same-bucket 6 n u f)
            | inr f ↦ absurd (omega (arith, same, low, other-bucket 6 n u f))
          ]
      | inr e ↦ absurd (omega (arith, low, other-bucket 6 n t e))
    ]

-- A time that has no more bytes than there are levels
abbrev pub HasBytes : ℕ → ℕ → Type 0
HasBytes zero t = t < 256
HasBytes (suc k) t = HasBytes k (t / 256)

pub has-bytes : (t : ℕ) → t < 2 ^ 64 → HasBytes 7 t
has-bytes t h = omega arith

pub bucket-range : (k n t : ℕ) → HasBytes k t → bucket_from k n t < 256 * k + 256
unfolding bucket_from
bucket-range zero n t h = omega arith
bucket-range (suc k) n t h =
    elim (cases_eq (n / 256) (t / 256)) [
      | inl e ↦ omega (arith, same-bucket k n t e)
      | inr e ↦ let rest = bucket-range k (n / 256) (t / 256) h in omega (arith, other-bucket k n t e, rest)
    ]

-- The level of a bucket
pub level-of-bucket : (k n t : ℕ) → HasBytes k t → bucket_from k n t / 256 ≡ level_from k n t
unfolding bucket_from level_from
level-of-bucket zero n t h = omega arith
level-of-bucket (suc k) n t h =
    elim (cases_eq (n / 256) (t / 256)) [
      | inl e ↦ omega (arith, same-bucket k n t e, same-level k n t e)
      | inr e ↦
          let rest = level-of-bucket k (n / 256) (t / 256) h in
          omega (arith, other-bucket k n t e, other-level k n t e, rest)
    ]

pub moves-of-bucket : (n t : ℕ) → t < 2 ^ 64 → bucket_from 7 n t / 256 ≡ moves_of n t
moves-of-bucket n t h = level-of-bucket 7 n t (has-bytes t h)

-- No time has more moves left than there are levels above the lowest
pub level-range : (k n t : ℕ) → level_from k n t ≤ k
unfolding level_from
level-range zero n t = omega arith
level-range (suc k) n t =
    elim (cases_eq (n / 256) (t / 256)) [
      | inl e ↦ omega (arith, same-level k n t e)
      | inr e ↦ let rest = level-range k (n / 256) (t / 256) in omega (arith, other-level k n t e, rest)
    ]

-- The present time itself
pub bucket-now : (t : ℕ) → bucket_from 7 t t ≡ t % 256
bucket-now t = same-bucket 6 t t refl

-- A step of the walk over the levels
pub bucket-step : (k n t : ℕ) → 0 < k → (n / 256 ≡ t / 256 → ⊥) → bucket_from k n t ≡ 256 + bucket_from (k - 1) (n / 256) (t / 256)
bucket-step zero n t h e = absurd (omega arith)
bucket-step (suc k) n t h e =
    let one : suc k - 1 ≡ k = omega arith in
    rw one (other-bucket k n t e)

pub bucket-end : (k n t : ℕ) → 0 < k → n / 256 ≡ t / 256 → bucket_from k n t ≡ t % 256
bucket-end zero n t h e = absurd (omega arith)
bucket-end (suc k) n t h e = same-bucket k n t e

pub bucket-zero : (n t : ℕ) → bucket_from 0 n t ≡ t
unfolding bucket_from
bucket-zero n t = refl

pub level-zero : (n t : ℕ) → level_from 0 n t ≡ 0
unfolding level_from
level-zero n t = refl

pub bytes-step : (k t : ℕ) → 0 < k → HasBytes k t → HasBytes (k - 1) (t / 256)
bytes-step zero t h b = absurd (omega arith)
bytes-step (suc k) t h b = let one : suc k - 1 ≡ k = omega arith in rw one b

-- A later present time leaves no time more moves
pub level-never-rises : (k n t u : ℕ) → n ≤ t → t ≤ u → level_from k t u ≤ level_from k n u
level-never-rises zero n t u h l = omega (arith, level-zero t u, level-zero n u)
level-never-rises (suc k) n t u h l =
    elim (cases_eq (t / 256) (u / 256)) [
      | inl e ↦ omega (arith, same-level k t u e)
      | inr e ↦
          let f : n / 256 ≡ u / 256 → ⊥ = λ x. e (omega arith) in
          let rest = level-never-rises k (n / 256) (t / 256) (u / 256) (omega arith) (omega arith) in
          omega (arith, other-level k t u e, other-level k n u f, rest)
    ]
