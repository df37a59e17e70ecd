-- Positions of a result set, and the lists that they are asked in (Z39.50-2003, 3.2.3.1).
use Rattle.std.specs.Prelude.{◌≡◌, ◌⊎◌, ℕ, ◌+◌, ◌*◌, ◌≤◌, nat_le, Bool, true, false, ◌==◌, List, [], ◌∷◌, take, drop, filter}

-- x is one of the list
abbrev pub IsIn : {X : Type 0} → X → List X → Type 0
IsIn x [] = ⊥
IsIn x (y ∷ ys) = (x ≡ y) ⊎ IsIn x ys

-- each position is low or more
abbrev pub IsFrom : ℕ → List ℕ → Type 0
IsFrom low [] = Unit {0}
IsFrom low (p ∷ ps) = (low ≤ p) × IsFrom low ps

-- each position is below those after it
abbrev pub AreAscending : List ℕ → Type 0
AreAscending [] = Unit {0}
AreAscending (p ∷ ps) = IsFrom (p + 1) ps × AreAscending ps

-- positions that can be wanted: from 1 on, in order, each once
abbrev pub IsWanted : List ℕ → Type 0
IsWanted wanted = IsFrom 1 wanted × AreAscending wanted

-- the wanted positions up to the count
abbrev pub up_to : ℕ → List ℕ → List ℕ
up_to count wanted = filter (λ p. nat_le p count) wanted

-- the list with number i, from 0, that positions are cut into by step; the last list may be shorter
abbrev pub cut_of : ℕ → List ℕ → ℕ → List ℕ
cut_of step ps i = take step (drop (i * step) ps)

-- the lists with p: in front of the first list if it joins it, else as a list of its own
abbrev pub join_or_start : Bool → ℕ → List (List ℕ) → List (List ℕ)
join_or_start joins p [] = (p ∷ []) ∷ []
join_or_start false p (l ∷ ls) = (p ∷ []) ∷ l ∷ ls
join_or_start true p (l ∷ ls) = (p ∷ l) ∷ ls

-- the positions begin right after p
abbrev pub is_followed : ℕ → List ℕ → Bool
is_followed p [] = false
is_followed p (q ∷ qs) = q == p + 1

-- the runs of consecutive positions
abbrev pub runs : List ℕ → List (List ℕ)
runs [] = []
runs (p ∷ ps) = join_or_start (is_followed p ps) p (runs ps)

-- the lists of the Presents for a list: one if version 3 is in force, else one for each run
abbrev pub presents : Bool → List ℕ → List (List ℕ)
presents true l = l ∷ []
presents false l = runs l

-- the first position, 0 if there is none
abbrev pub first_of : List ℕ → ℕ
first_of [] = 0
first_of (p ∷ ps) = p
