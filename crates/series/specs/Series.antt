-- A series of supply returns, each on the image that the one before it left, and the plain clock of document 01 run beside it.
use Rattle.std.specs.Prelude.{ℕ, ◌+◌, Bool, false, cond, not, ◌&&◌, ◌||◌, List, [], ◌∷◌, eqb, leb}
use Rattle.calendar.specs.declared.Clock.{Clock}
use Rattle.calendar.specs.Clock.{limit, moved}
use Rattle.stled325.specs.Calls.{supply_return_call}

-- the image after the series
unfoldable pub image_after_series : List ℕ → List ℕ → List ℕ
image_after_series l [] = l
image_after_series l (n ∷ ns) = image_after_series (supply_return_call l n).image ns

-- the number of each return
unfoldable pub numbers : List ℕ → List ℕ → List ℕ
numbers l [] = []
numbers l (n ∷ ns) = (supply_return_call l n).number ∷ numbers (supply_return_call l n).image ns

-- answers with the numbers written over them from the first place on, as far as there are places
unfoldable pub noted : List ℕ → List ℕ → List ℕ
noted [] ns = []
noted (a ∷ rest) [] = a ∷ rest
noted (a ∷ rest) (n ∷ ns) = n ∷ noted rest ns

-- n is within the limit
abbrev pub within : ℕ → Bool
within n = leb n limit

-- the sum of the accepted n, from a valid image
unfoldable pub total : List ℕ → ℕ
total [] = 0
total (n ∷ ns) = cond (within n) n 0 + total ns

-- the sum of the n whose return has number 0, the numbers given
unfoldable pub sum_accepted : List ℕ → List ℕ → ℕ
sum_accepted [] ns = 0
sum_accepted (k ∷ ks) [] = 0
sum_accepted (k ∷ ks) (n ∷ ns) = cond (eqb k 0) n 0 + sum_accepted ks ns

-- at least one return is accepted, from a valid image
unfoldable pub some_accepted : List ℕ → Bool
some_accepted [] = false
some_accepted (n ∷ ns) = within n || some_accepted ns

-- one of the numbers is 0
unfoldable pub some_zero : List ℕ → Bool
some_zero [] = false
some_zero (k ∷ ks) = eqb k 0 || some_zero ks

-- the plain clock, fed each n: it moves on by each accepted one, unless stopped
unfoldable pub plain_clock : Bool → Clock → List ℕ → Clock
plain_clock stop c [] = c
plain_clock stop c (n ∷ ns) = plain_clock stop (cond (within n && not stop) (moved c n) c) ns
