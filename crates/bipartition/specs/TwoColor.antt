-- Module 2 of document 01, `two_color` of coloring.rs, on a list of appointments. Assumes nothing.
use Rattle.std.specs.Prelude.{ℕ, zero, suc, ◌-◌, List, [], ◌∷◌, ◌++◌, reverse, eqb}
use Rattle.words.specs.Basics.{pick, iterate}
use Rattle.appointments.specs.Appointments.{Appt}

-- A party with its colour: 0 is left, 1 is right.
pub record ColouredParty : Type 0 where
  pub party : ℕ
  pub colour : ℕ

abbrev pub coloured : ℕ → ℕ → ColouredParty
coloured v c = record { party = v; colour = c }

-- the parties that have a colour so far, newest first
abbrev pub Colouring : Type 0
Colouring = List ColouredParty

-- the colour of a party, and 2 for a party that has none yet
unfoldable pub colour_of : ℕ → Colouring → ℕ
colour_of v [] = 2
colour_of v (m ∷ cs) = pick (eqb v m.party) m.colour (colour_of v cs)

-- The far ends of the appointments whose near end is v; `near` and `far` read the two ends off an appointment.
unfoldable pub far_ends : (Appt → ℕ) → (Appt → ℕ) → ℕ → List Appt → List ℕ
far_ends near far v [] = []
far_ends near far v (x ∷ xs) = let rest = far_ends near far v xs in pick (eqb v (near x)) (far x ∷ rest) rest

-- the other ends of a party's appointments: of those where it is first end, or where it is second end
abbrev pub second_ends : ℕ → List Appt → List ℕ
second_ends v xs = far_ends (λ x. x.first) (λ x. x.second) v xs

abbrev pub first_ends : ℕ → List Appt → List ℕ
first_ends v xs = far_ends (λ x. x.second) (λ x. x.first) v xs

-- The neighbours of a party, taken over single appointments: those where it is first end come newest first, then those
-- where it is second end, newest first.
unfoldable pub neighbours : ℕ → List Appt → List ℕ
neighbours v xs = second_ends v (reverse xs) ++ first_ends v (reverse xs)

-- What the search has come to: the colouring so far, and the stack, its last party first; or refused, since two neighbours
-- have one colour.
pub data Search : Type 0 where
  going : Colouring → List ℕ → Search
  refused : Search

-- A neighbour w of a party of colour c: it refuses if it has that colour, gets the other and is pushed if it has none.
unfoldable pub touch : ℕ → ℕ → Search → Search
touch c w refused = refused
touch c w (going so_far stack) =
    pick (eqb (colour_of w so_far) c) refused
    (pick (eqb (colour_of w so_far) 2) (going (coloured w (1 - c) ∷ so_far) (w ∷ stack)) (going so_far stack))

unfoldable pub touch_all : ℕ → List ℕ → Search → Search
touch_all c [] s = s
touch_all c (w ∷ ws) s = touch_all c ws (touch c w s)

-- The last party on the stack comes off, and its neighbours are looked at. With an empty stack nothing happens.
unfoldable pub pop : List Appt → Search → Search
pop xs refused = refused
pop xs (going so_far []) = going so_far []
pop xs (going so_far (v ∷ stack)) = touch_all (colour_of v so_far) (neighbours v xs) (going so_far stack)

-- A party that is still uncoloured gets 1 and goes on the stack, which is then worked off. No more parties come off than
-- there are, so P steps suffice (a law).
unfoldable pub start : ℕ → List Appt → ℕ → Search → Search
start P xs v refused = refused
start P xs v (going so_far stack) =
    pick (eqb (colour_of v so_far) 2) (iterate P (pop xs) (going (coloured v 1 ∷ so_far) (v ∷ stack))) (going so_far stack)

-- the parties below v, in number order
unfoldable pub search_below : ℕ → List Appt → ℕ → Search
search_below P xs zero = going [] []
search_below P xs (suc v) = start P xs v (search_below P xs v)

-- the parties of a colour, in order of first colouring
unfoldable pub side : ℕ → Colouring → List ℕ
side c [] = []
side c (m ∷ cs) = let earlier = side c cs in pick (eqb c m.colour) (earlier ++ (m.party ∷ [])) earlier

-- The answer: the left and the right side, each in order of first colouring; not bipartite; or (which a law rules out)
-- the steps didn't suffice.
pub data Sides : Type 0 where
  sides : List ℕ → List ℕ → Sides
  not_bipartite : Sides
  unfinished : Sides

abbrev pub sides_of : Search → Sides
sides_of (going so_far []) = sides (side 0 so_far) (side 1 so_far)
sides_of (going so_far (v ∷ stack)) = unfinished
sides_of refused = not_bipartite

unfoldable pub two_color : ℕ → List Appt → Sides
two_color P xs = sides_of (search_below P xs P)
