-- The models of `push_slot` and `take_slot`; one turn of each loop's model, and where it stops. Assumes nothing.
use Prim.Native.Nat.{ℕ, suc, ◌+◌, ◌*◌, ◌-◌, ◌/◌, ◌%◌, ◌<◌, ◌≤◌}
use mathlib.Core.Path.{◌≡◌}
use mathlib.Core.List.{List}
use native.Mathlib.Omega.{arith}
use native.Mathlib.Numerals.{add-one}
use Rattle.words.specs.Words.{word, put_word, put_word16}
use Rattle.slot_chains.specs.Steps.{pushed, matching_pushed, all_pushed, taken_words, taken_slots, given_words, given_slots}

-- what `push_slot` reads and writes, one after the other, is its model
pub push_is :
    (out links slot t : ℕ) (s : List ℕ) {e next : ℕ} {s₁ s₂ : List ℕ} → e ≡ word s (out + t) → next ≡ word s (links + e) →
    s₁ ≡ put_word s (out + t) next → s₂ ≡ put_word s₁ (links + e) (slot * 16384 + t) → s₂ ≡ pushed out links slot t s
unfolding pushed
push_is out links slot t s number first held linked = rw (linked, held, first, number)

-- and so for `take_slot`: the words
pub take_is :
    (out links at : ℕ) (s : List ℕ) {e first next : ℕ} {t : List ℕ} → e ≡ word s at → first ≡ word s (links + e) →
    next ≡ word s (out + first % 16384) → t ≡ put_word s (links + e) next → t ≡ taken_words out links at s
unfolding taken_words
take_is out links at s number linked on put = rw (put, on, linked, number)

-- and the slots
pub slot_is :
    (links at i : ℕ) (s slots : List ℕ) {e first : ℕ} {after : List ℕ} → e ≡ word s at → first ≡ word s (links + e) →
    after ≡ put_word16 slots i (first / 16384) → after ≡ taken_slots links at i s slots
unfolding taken_slots
slot_is links at i s slots number linked put = rw (put, linked, number)

pub matching_pushed_more :
    (n out links slot j : ℕ) (s : List ℕ) →
    matching_pushed n out links slot (j + 1) s ≡ pushed out links slot (n * slot + j) (matching_pushed n out links slot j s)
unfolding matching_pushed
matching_pushed_more n out links slot j s = rw add-one

pub all_pushed_more :
    (n out links slot : ℕ) (s : List ℕ) →
    all_pushed n out links (slot + 1) s ≡ matching_pushed n out links slot n (all_pushed n out links slot s)
unfolding all_pushed
all_pushed_more n out links slot s = rw add-one

module _ (out pair_numbers links a i : ℕ) where
  module _ (h : i < a) where
    still : a - i ≡ suc (a - (i + 1))
    still = omega arith

    pub given_words_turn :
        (s : List ℕ) →
        given_words out pair_numbers links i (a - i) s
        ≡ given_words out pair_numbers links (i + 1) (a - (i + 1)) (taken_words out links (pair_numbers + i) s)
    unfolding given_words
    given_words_turn s = rw still

    pub given_slots_turn :
        (s slots : List ℕ) →
        given_slots out pair_numbers links i (a - i) s slots
        ≡ given_slots out pair_numbers links (i + 1) (a - (i + 1)) (taken_words out links (pair_numbers + i) s)
        (taken_slots links (pair_numbers + i) i s slots)
    unfolding given_slots
    given_slots_turn s slots = rw still

  module _ (h : a ≤ i) where
    over : a - i ≡ 0
    over = omega arith

    pub given_words_stop : (s : List ℕ) → given_words out pair_numbers links i (a - i) s ≡ s
    unfolding given_words
    given_words_stop s = rw over

    pub given_slots_stop : (s slots : List ℕ) → given_slots out pair_numbers links i (a - i) s slots ≡ slots
    unfolding given_slots
    given_slots_stop s slots = rw over
