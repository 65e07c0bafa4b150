-- The cases of each step of the code's model. Assumes nothing.
use Prim.Native.Nat.{ℕ, ◌+◌, ◌<◌, ◌≤◌}
use mathlib.Core.Path.{◌≡◌}
use mathlib.Core.List.{List}
use borrow.Author.Tests.{eq-eqb, ne_eqb, lt-ltb, le-ltb}
use Rattle.words.specs.Words.{word, put_word}
use Rattle.two_color_steps.specs.Model.{right_place, colour_place, refused_place, next_place, stack_count, left_count, right_count, append_m, stacked, color_party_m, touch_m, take_off_m, next_party_m, step_m}

module _ (u p : ℕ) (s : List ℕ) where
  pub color_left : (w color : ℕ) → color ≡ 0 → color_party_m u p w color s ≡ append_m (left_count u p) u w (stacked u p w color s)
  unfolding color_party_m
  color_left w color h = rw (eq-eqb color 0 h)

  pub color_right : (w color : ℕ) → (color ≡ 0 → ⊥) → color_party_m u p w color s ≡ append_m (right_count u p) (right_place u p) w (stacked u p w color s)
  unfolding color_party_m
  color_right w color h = rw (ne_eqb color 0 h)

  pub touch_passes : (other w : ℕ) → word s (colour_place u p w) ≡ other → touch_m u p other w s ≡ s
  unfolding touch_m
  touch_passes other w h = rw (eq-eqb (word s (colour_place u p w)) other h)

  pub touch_refuses : (other w : ℕ) → (word s (colour_place u p w) ≡ other → ⊥) → (word s (colour_place u p w) ≡ 2 → ⊥) → touch_m u p other w s ≡ put_word s (refused_place u p) 1
  unfolding touch_m
  touch_refuses other w n m = rw (ne_eqb (word s (colour_place u p w)) other n, ne_eqb (word s (colour_place u p w)) 2 m)

  pub touch_colors : (other w : ℕ) → (word s (colour_place u p w) ≡ other → ⊥) → word s (colour_place u p w) ≡ 2 → word s (refused_place u p) ≡ 0 → touch_m u p other w s ≡ color_party_m u p w other s
  unfolding touch_m
  touch_colors other w n e h = rw (ne_eqb (word s (colour_place u p w)) other n, eq-eqb (word s (colour_place u p w)) 2 e, eq-eqb (word s (refused_place u p)) 0 h)

  pub touch_rests : (other w : ℕ) → (word s (colour_place u p w) ≡ other → ⊥) → word s (colour_place u p w) ≡ 2 → (word s (refused_place u p) ≡ 0 → ⊥) → touch_m u p other w s ≡ s
  unfolding touch_m
  touch_rests other w n e h = rw (ne_eqb (word s (colour_place u p w)) other n, eq-eqb (word s (colour_place u p w)) 2 e, ne_eqb (word s (refused_place u p)) 0 h)

  pub next_none : p ≤ word s (next_place u p) → next_party_m u p s ≡ s
  unfolding next_party_m
  next_none h = rw (le-ltb (word s (next_place u p)) p h)

  pub next_colors : (v : ℕ) → word s (next_place u p) ≡ v → v < p → word s (colour_place u p v) ≡ 2 → next_party_m u p s ≡ color_party_m u p v 1 (put_word s (next_place u p) (v + 1))
  unfolding next_party_m
  next_colors v e h k = rw (e, lt-ltb v p h, eq-eqb (word s (colour_place u p v)) 2 k)

  pub next_passes : (v : ℕ) → word s (next_place u p) ≡ v → v < p → (word s (colour_place u p v) ≡ 2 → ⊥) → next_party_m u p s ≡ put_word s (next_place u p) (v + 1)
  unfolding next_party_m
  next_passes v e h k = rw (e, lt-ltb v p h, ne_eqb (word s (colour_place u p v)) 2 k)

  pub step_rests : (word s (refused_place u p) ≡ 0 → ⊥) → step_m u p s ≡ s
  unfolding step_m
  step_rests h = rw (ne_eqb (word s (refused_place u p)) 0 h)

  pub step_next : word s (refused_place u p) ≡ 0 → word s (stack_count u p) ≡ 0 → step_m u p s ≡ next_party_m u p s
  unfolding step_m
  step_next h e = rw (eq-eqb (word s (refused_place u p)) 0 h, eq-eqb (word s (stack_count u p)) 0 e)

  pub step_off : word s (refused_place u p) ≡ 0 → (word s (stack_count u p) ≡ 0 → ⊥) → step_m u p s ≡ take_off_m u p (word s (stack_count u p)) s
  unfolding step_m
  step_off h e = rw (eq-eqb (word s (refused_place u p)) 0 h, ne_eqb (word s (stack_count u p)) 0 e)
