-- Choice by a Bool: the library's `cond` by its cases. Assumes nothing.
use mathlib.Core.Path.{◌≡◌, refl}
use mathlib.Core.Bool.{Bool, true, false, cond, ◌&&◌, ◌||◌, true≢false, false≢true}
use mathlib.Core.Logic.{◌⊎◌, inl, inr}

module _ {A : Type 0} {b : Bool} (x y : A) where
  pub on_true : b ≡ true → x ≡ cond b x y
  on_true e = rw e refl

  pub on_false : b ≡ false → y ≡ cond b x y
  on_false e = rw e refl

  -- the answer behind a test that fails
  pub past : {z : A} → b ≡ false → z ≡ y → z ≡ cond b x y
  past e h = rw e h

module _ {A : Type 0} where
  -- what holds of the answer chosen, from each case
  pub of_cond : (P : A → Type 0) (b : Bool) (x y : A) → (b ≡ true → P x) → (b ≡ false → P y) → P (cond b x y)
  of_cond P true x y p q = p refl
  of_cond P false x y p q = q refl

  -- a function of a choice is the choice of its values
  pub ap_cond : {B : Type 0} (f : A → B) (b : Bool) (x y : A) → f (cond b x y) ≡ cond b (f x) (f y)
  ap_cond f true x y = refl
  ap_cond f false x y = refl

-- a proof by the cases of a Bool, with what each case says
pub by_cases : (P : Type 0) (b : Bool) → (b ≡ true → P) → (b ≡ false → P) → P
by_cases P true p q = p refl
by_cases P false p q = q refl

pub and_left : (a b : Bool) → (a && b) ≡ true → a ≡ true
and_left true b h = refl
and_left false b h = h

pub and_right : (a b : Bool) → (a && b) ≡ true → b ≡ true
and_right true b h = h
and_right false b h = absurd (false≢true h)

pub and_both : (a b : Bool) → a ≡ true → b ≡ true → (a && b) ≡ true
and_both a b e f = λ i. e i && f i

pub or_cases : (a b : Bool) → (a || b) ≡ true → (a ≡ true) ⊎ (b ≡ true)
or_cases true b h = inl refl
or_cases false b h = inr h

pub neither_left : (a b : Bool) → (a || b) ≡ false → a ≡ false
neither_left true b h = h
neither_left false b h = refl

pub neither_right : (a b : Bool) → (a || b) ≡ false → b ≡ false
neither_right true b h = absurd (true≢false h)
neither_right false b h = h

-- not both, but the one: not the other
pub not_other : (a b : Bool) → a ≡ true → (a && b) ≡ false → b ≡ false
not_other true b e h = h
not_other false b e h = absurd (false≢true e)
