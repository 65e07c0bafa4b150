-- Bytes cut behind each line feed, as `split_inclusive` gives them, and the lines read piece by piece. Assumes nothing.
use Prim.Native.Nat.{ℕ, ◌+◌, ◌-◌, ◌*◌, ◌/◌, ◌≤◌, ◌<◌}
use mathlib.Core.Path.{◌≡◌, refl, sym, ◌∙◌, ap, subst}
use mathlib.Core.Bool.{Bool, true, false}
use mathlib.Core.List.{List, [], ◌∷◌, ◌++◌, append_assoc, append-nil}
use mathlib.Core.Logic.{⊎_elim}
use native.Mathlib.Omega.{arith}
use native.Mathlib.Numerals.{add-one}
use denote.Ref.{Bor}
use denote.Param.Members.{Mut}
use borrow.Author.Tests.{ne_eqb, eqb-true, eqb-false}
use lib.Dec.{eqb}
use lib.ListN.{length, get_or, take, drop, set, length-append, length-take, length-drop}
use lib.Seq.{take_at, drop-drop, drop-append-add, sets-eq}
use Rattle.std.specs.Prelude.{Option, None, Some, Ok, Err, MatchOption, min}
use Rattle.std.specs.Fn.{ComputesKey, CalledAt}
use Rattle.std.specs.List.{IsFirstMatchOrLen}
use Rattle.std.specs.declared.slice.SplitInclusive.{SplitInclusive}
use Rattle.std.specs.Slice.Iter.{split_inclusive_rest, split_inclusive_callee}
use Rattle.std.proofs.lemmas.Iterator.{YieldsList}
use Rattle.std.proofs.lemmas.Iterator.Consumers.{YieldsList-at}
use Rattle.std.proofs.lemmas.Iterator.Splits.{YieldsList-from_shown_while}
use Rattle.std.proofs.lemmas.Fn.{always_returns_same}
use Rattle.std.proofs.lemmas.Bool.{cases_lt}
use Rattle.std.proofs.lemmas.List.{drop_at, take_more, get_or_push, at_drop_more, at_drop_all, nil_from_length}
use Rattle.words.specs.Basics.{pick, total, All}
use Rattle.words.proofs.Sums.{all_at}
use Rattle.words.specs.Ascii.{line_feed}
use Rattle.appointments.specs.Appointments.{Appt}
use Rattle.appointments.specs.declared.Refusal.TheVariants.{MalformedLine}
use Rattle.reading.specs.Reading.{onto, parts, appointment_of, Input, input, malformed, with_ends, and_then_lines, read_lines}
use Rattle.reading.specs.Told.{FirstAt, ended_line, ReadAs}
use Rattle.reading.proofs.Parting.{Free, Unfound, parts_at, parts_none, parts_some}
use Rattle.reading.proofs.ReadingLaws.{spread, parts_spread, line_is}

-- each line with its line feed, and what stands behind the last one, if anything does
unfoldable pub pieces_of : List (List ℕ) → List (List ℕ)
pieces_of [] = []
pieces_of (rest ∷ []) = pick (eqb (length rest) 0) [] (rest ∷ [])
pieces_of (line ∷ next ∷ more) = (line ++ (line_feed ∷ [])) ∷ pieces_of (next ∷ more)

unfoldable pub pieces : List ℕ → List (List ℕ)
unfolding pieces_of
pieces bytes = pieces_of (parts line_feed bytes)

pieces_more : (line : List ℕ) (ps : List (List ℕ)) → 0 < length ps → pieces_of (line ∷ ps) ≡ (line ++ (line_feed ∷ [])) ∷ pieces_of ps
unfolding pieces_of
pieces_more line [] h = absurd (omega arith)
pieces_more line (next ∷ more) h = refl

-- ── what `split_inclusive` gives ──

module _ (rest x left : List ℕ) (e : rest ≡ x ++ left) (i : ℕ) (l : length x ≡ min (i + 1) (length rest)) (m : IsFirstMatchOrLen (λ b. eqb b line_feed) rest i) (some : 0 < length rest) where
  before : (k : ℕ) → k < i → get_or rest k 0 ≡ line_feed → ⊥
  before k h q = eqb-false (get_or rest k 0) line_feed (m.0 k 0 (omega arith) h) q

  first_piece : pieces rest ≡ x ∷ pieces left
  unfolding pieces parts
  first_piece = ⊎_elim inside behind (cases_lt i (length rest))
    where
      inside : i < length rest → pieces rest ≡ x ∷ pieces left
      inside h =
          let here : get_or rest i 0 ≡ line_feed = eqb-true (get_or rest i 0) line_feed (m.1 h 0) in
          let found : FirstAt line_feed rest i = record { inside = h; before = before; here = here } in
          let size : length x ≡ i + 1 = omega arith in
          let front : take (i + 1) rest ≡ x = rw e (take_at x left (i + 1) size) in
          let back : drop (i + 1) rest ≡ left = rw e (drop_at x left (i + 1) size) in
          let line : take i rest ++ (line_feed ∷ []) ≡ x = rw (← here) (sym (take_more rest i 0 h) ∙ front) in
          ap pieces_of (parts_at line_feed rest i found)
          ∙ pieces_more (take i rest) (parts line_feed (drop (i + 1) rest)) (parts_some line_feed (drop (i + 1) rest))
          ∙ rw (line, back) refl

      behind : length rest ≤ i → pieces rest ≡ x ∷ pieces left
      behind h =
          let none_left : left ≡ [] = nil_from_length left (omega (arith, ap length e, length-append x left)) in
          let whole : rest ≡ x = e ∙ rw none_left (append-nil x) in
          let unfound : Unfound line_feed rest = λ k j. before k (omega arith) in
          let some_byte : length rest ≡ 0 → ⊥ = λ z. omega arith in
          ap pieces_of (parts_none line_feed rest unfound) ∙ rw (ne_eqb (length rest) 0 some_byte, none_left) (ap (λ (p : List ℕ). p ∷ []) whole)

-- what a step of `split_inclusive` says, as its contract has it
abbrev pub cuts : {F : Type 0} → Mut F (Bor ℕ × Unit {0}) Bool → SplitInclusive ℕ F → Option (Bor (List ℕ)) → SplitInclusive ℕ F → Type 0
cuts g s r t =
    MatchOption r ((length (split_inclusive_rest s) ≡ 0) × (t ≡ s))
    (λ x.
    (split_inclusive_rest s ≡ x.now ++ split_inclusive_rest t)
    × ((i : ℕ)
    × (length x.now ≡ min (i + 1) (length (split_inclusive_rest s)))
    × ((p : ℕ → Bool) → ComputesKey g p (split_inclusive_callee s) → ComputesKey g p (split_inclusive_callee t) × IsFirstMatchOrLen p (split_inclusive_rest s) i))
    × (0 < length (split_inclusive_rest s)))

-- an iterator that begins over bytes that are cut behind each line feed; the first three facts are the clauses `into_iter_gives`,
-- `rest` and `closure`
pub yields_pieces :
    {F : Type 0} {s z : _} (g : Mut F (Bor ℕ × Unit {0}) Bool) {f : F} (bytes : List ℕ) → s ≡ z → split_inclusive_rest z ≡ bytes → split_inclusive_callee z ≡ f →
    ((x : ℕ) (b : Bool) (q : F) → CalledAt g f x b q → (q ≡ f) × (b ≡ eqb x line_feed)) → YieldsList (cuts g) (λ x. x.now) s (pieces bytes)
unfolding pieces parts
yields_pieces {z = z} g {f} bytes start rest closure tests =
    YieldsList-at start
    (subst (λ (b : List ℕ). YieldsList (cuts g) (λ x. x.now) z (pieces b)) rest
    (YieldsList-from_shown_while (cuts g) (λ x. x.now) (λ t. pieces (split_inclusive_rest t)) (λ t. ComputesKey g (λ b. eqb b line_feed) (split_inclusive_callee t))
    (λ t u h k. ap (λ (b : List ℕ). length (pieces b)) (nil_from_length (split_inclusive_rest t) k.0))
    (λ t x u h k.
    let d = k.1.2 (λ b. eqb b line_feed) h in
    (d.0, first_piece _ x.now _ k.0 k.1.0 k.1.1 d.1 k.2))
    z (subst (ComputesKey g (λ b. eqb b line_feed)) (sym closure) (always_returns_same g (λ a r. r ≡ eqb a.0.now line_feed) f (λ a r q k. let m = tests a.0.now r q (record { shown = a.0; shows = refl; called = k }) in (m.1, m.0))))))

-- ── reading piece by piece ──

unfoldable pub read_pieces : ℕ → ℕ → List (List ℕ) → Input
read_pieces P n [] = input P []
read_pieces P n (x ∷ xs) =
    let later = read_pieces P (n + 1) xs in
    and_then_lines n (ended_line x) later

parts_free : (separator : ℕ) (bytes : List ℕ) → All (Free separator) (parts separator bytes)
unfolding parts
parts_free separator [] = (tt, tt)
parts_free separator (b ∷ bytes) = go (eqb b separator) refl (parts separator bytes) (parts_free separator bytes)
  where
    go : (t : Bool) → eqb b separator ≡ t → (more : List (List ℕ)) → All (Free separator) more → All (Free separator) (pick t ([] ∷ more) (onto b more))
    go true e more h = (tt, h)
    go false e [] h = ((eqb-false b separator e, tt), tt)
    go false e (part ∷ more) h = ((eqb-false b separator e, h.0), h.1)

line_ended : (line : List ℕ) → ended_line (line ++ (line_feed ∷ [])) ≡ appointment_of line
unfolding ended_line
line_ended line =
    let size : length (line ++ (line_feed ∷ [])) - 1 ≡ length line = omega (arith, length-append line (line_feed ∷ [])) in
    rw (size, get_or_push line line_feed 0 (length line) refl, take_at line (line_feed ∷ []) (length line) refl) refl

not_ended : (rest : List ℕ) → Free line_feed rest → 0 < length rest → ended_line rest ≡ None
unfolding ended_line
not_ended rest f h =
    rw (ne_eqb (get_or rest (length rest - 1) 0) line_feed (all_at (λ (b : ℕ). b ≡ line_feed → ⊥) rest 0 f (length rest - 1) (omega arith))) refl

parts_read : (P n : ℕ) (ps : List (List ℕ)) → 0 < length ps → All (Free line_feed) ps → read_lines P n ps ≡ read_pieces P n (pieces_of ps)
unfolding read_lines read_pieces pieces_of
parts_read P n [] h f = absurd (omega arith)
parts_read P n (rest ∷ []) h f = go (eqb (length rest) 0) refl
  where
    go : (t : Bool) → eqb (length rest) 0 ≡ t → pick t (input P []) (malformed n) ≡ read_pieces P n (pick t [] (rest ∷ []))
    go true e = refl
    go false e =
        let some_byte : length rest ≡ 0 → ⊥ = eqb-false (length rest) 0 e in
        rw (not_ended rest f.0 (omega arith)) refl
parts_read P n (line ∷ next ∷ more) h f =
    rw (line_ended line, parts_read P (n + 1) (next ∷ more) (omega arith) f.1) refl

pub lines_are_pieces : (P n : ℕ) (bytes : List ℕ) → read_lines P n (parts line_feed bytes) ≡ read_pieces P n (pieces bytes)
unfolding pieces
lines_are_pieces P n bytes = parts_read P n (parts line_feed bytes) (parts_some line_feed bytes) (parts_free line_feed bytes)

-- ── how many bytes the pieces hold ──

abbrev pub held : List (List ℕ) → ℕ
held ps = total (λ (p : List ℕ). length p) ps

pieces_held : (ps : List (List ℕ)) → 0 < length ps → held (pieces_of ps) + 1 ≤ spread ps
unfolding total pieces_of
pieces_held [] h = absurd (omega arith)
pieces_held (rest ∷ []) h = go (eqb (length rest) 0)
  where
    go : (t : Bool) → held (pick t [] (rest ∷ [])) + 1 ≤ spread (rest ∷ [])
    go true = omega arith
    go false = omega arith
pieces_held (line ∷ next ∷ more) h = omega (arith, pieces_held (next ∷ more) (omega arith), length-append line (line_feed ∷ []))

pub pieces_fit : (bytes : List ℕ) → held (pieces bytes) ≤ length bytes
unfolding pieces
pieces_fit bytes = omega (arith, pieces_held (parts line_feed bytes) (parts_some line_feed bytes), parts_spread line_feed bytes)

-- ── the pieces read so far ──

-- a list with other numbers before it
abbrev behind : List ℕ → Input → Input
behind front (input P list) = input P (front ++ list)
behind front (malformed n) = malformed n

behind_none : (i : Input) → i ≡ behind [] i
behind_none (input P list) = refl
behind_none (malformed n) = refl

behind_more : (front : List ℕ) (x : Appt) (i : Input) → behind front (with_ends x i) ≡ behind ((front ++ (x.first ∷ [])) ++ (x.second ∷ [])) i
behind_more front x (input P list) = ap (input P) (sym (append_assoc (front ++ (x.first ∷ [])) (x.second ∷ []) list ∙ append_assoc front (x.first ∷ []) (x.second ∷ list)))
behind_more front x (malformed n) = refl

-- what was read of k pieces: the list so far, and the pieces that are left give the rest
pub record SoFar (P : ℕ) (bytes list : List ℕ) (k : ℕ) : Type 0 where
  pub counted : length list ≡ 2 * k
  pub lines : read_lines P 2 (parts line_feed bytes) ≡ behind list (read_pieces P (k + 2) (drop k (pieces bytes)))
  pub few : length list + held (drop k (pieces bytes)) ≤ length bytes

pub so_far_start : (P : ℕ) (bytes : List ℕ) → SoFar P bytes [] 0
so_far_start P bytes =
    record {
      counted = refl;
      lines = lines_are_pieces P 2 bytes ∙ behind_none (read_pieces P 2 (pieces bytes));
      few = omega (arith, pieces_fit bytes);
    }

-- the next piece
module _ {P : ℕ} {bytes list : List ℕ} {k : ℕ} (s : SoFar P bytes list k) (x : List ℕ) (h : (k < length (pieces bytes)) × (x ≡ get_or (pieces bytes) k x)) where
  next_piece : {Y : Type 0} (F : List (List ℕ) → Y) → F (drop k (pieces bytes)) ≡ F (x ∷ drop (k + 1) (pieces bytes))
  next_piece F = at_drop_more F (pieces bytes) k x h.0 ∙ ap (λ (p : List ℕ). F (p ∷ drop (k + 1) (pieces bytes))) (sym h.1)

  next_read : read_pieces P (k + 2) (drop k (pieces bytes)) ≡ and_then_lines (k + 2) (ended_line x) (read_pieces P (k + 1 + 2) (drop (k + 1) (pieces bytes)))
  unfolding read_pieces
  next_read =
      let on : k + 2 + 1 ≡ k + 1 + 2 = omega arith in
      next_piece (read_pieces P (k + 2)) ∙ ap (λ (n : ℕ). and_then_lines (k + 2) (ended_line x) (read_pieces P n (drop (k + 1) (pieces bytes)))) on

  pub so_far_malformed : ended_line x ≡ None → read_lines P 2 (parts line_feed bytes) ≡ malformed (length list / 2 + 2)
  so_far_malformed e =
      let place : k + 2 ≡ length list / 2 + 2 = omega (arith, s.counted) in
      let read : read_pieces P (k + 2) (drop k (pieces bytes)) ≡ malformed (length list / 2 + 2) = next_read ∙ ap (λ (o : Option Appt). and_then_lines (k + 2) o (read_pieces P (k + 1 + 2) (drop (k + 1) (pieces bytes)))) e ∙ ap malformed place in
      s.lines ∙ ap (behind list) read

  module _ (a : Appt) (e : ended_line x ≡ Some a) where
    two_bytes : 2 ≤ length x
    unfolding ended_line
    two_bytes = go (eqb (get_or x (length x - 1) 0) line_feed) e
      where
        go : (t : Bool) → pick t (appointment_of (take (length x - 1) x)) None ≡ Some a → 2 ≤ length x
        go true q = omega (arith, (line_is (take (length x - 1) x) a q).some_byte, length-take (length x - 1) x)
        go false q = cc

    room_more : length list + 2 + held (drop (k + 1) (pieces bytes)) ≤ length bytes
    unfolding total
    room_more = let n = next_piece held in omega (arith, s.few, two_bytes)

    pub so_far_room : length list + 2 ≤ length bytes
    so_far_room = omega (arith, room_more)

    pub so_far_more : SoFar P bytes ((list ++ (a.first ∷ [])) ++ (a.second ∷ [])) (k + 1)
    so_far_more =
        let size : length ((list ++ (a.first ∷ [])) ++ (a.second ∷ [])) ≡ length list + 2 =
        omega (arith, length-append (list ++ (a.first ∷ [])) (a.second ∷ []), length-append list (a.first ∷ [])) in
        let read : read_pieces P (k + 2) (drop k (pieces bytes)) ≡ with_ends a (read_pieces P (k + 1 + 2) (drop (k + 1) (pieces bytes))) = next_read ∙ ap (λ (o : Option Appt). and_then_lines (k + 2) o (read_pieces P (k + 1 + 2) (drop (k + 1) (pieces bytes)))) e in
        record {
          counted = omega (arith, s.counted);
          lines = s.lines ∙ ap (behind list) read ∙ behind_more list a (read_pieces P (k + 1 + 2) (drop (k + 1) (pieces bytes)));
          few = omega (arith, room_more);
        }

-- all pieces
pub so_far_all : {P : ℕ} {bytes list : List ℕ} {k : ℕ} → SoFar P bytes list k → k ≡ length (pieces bytes) → read_lines P 2 (parts line_feed bytes) ≡ input P list
unfolding read_pieces
so_far_all {P} {bytes} {list} {k} s e = s.lines ∙ ap (behind list) (at_drop_all (read_pieces P (k + 2)) (pieces bytes) k (omega arith)) ∙ ap (input P) (append-nil list)

-- ── in the lent list ──

-- the numbers read so far stand first in the lent list, and its later ones are as they were
pub record Stored (P : ℕ) (bytes before : List ℕ) (count : ℕ) (list : List ℕ) (k : ℕ) : Type 0 where
  pub done : List ℕ
  pub read : SoFar P bytes done k
  pub counted : length done ≡ count
  pub entries : list ≡ done ++ drop count before

pub stored_start : (P : ℕ) (bytes before : List ℕ) → Stored P bytes before 0 before 0
stored_start P bytes before = record { done = []; read = so_far_start P bytes; counted = refl; entries = refl }

module _ {P : ℕ} {bytes before : List ℕ} {count : ℕ} {list : List ℕ} {k : ℕ} (s : Stored P bytes before count list k) (room : length bytes ≤ length before) where
  pub stored_malformed : (x : List ℕ) → (k < length (pieces bytes)) × (x ≡ get_or (pieces bytes) k x) → ended_line x ≡ None →
      ReadAs (read_lines P 2 (parts line_feed bytes)) (Err (MalformedLine (count / 2 + 2))) before list
  stored_malformed x h e =
      rw (so_far_malformed s.read x h e) (ap (λ (n : ℕ). Err (MalformedLine (n / 2 + 2))) (sym s.counted))

  pub stored_all : k ≡ length (pieces bytes) → ReadAs (read_lines P 2 (parts line_feed bytes)) (Ok (record { parties = P; count = count })) before list
  stored_all e = rw (so_far_all s.read e, s.counted) (refl, s.entries)

  module _ (x : List ℕ) (h : (k < length (pieces bytes)) × (x ≡ get_or (pieces bytes) k x)) (a : Appt) (e : ended_line x ≡ Some a) where
    list_length : length list ≡ length before
    list_length =
        omega (arith, ap length s.entries, length-append s.done (drop count before), length-drop count before, s.counted, so_far_room s.read x h a e)

    pub stored_room : count + 1 < length list
    stored_room = omega (arith, list_length, s.counted, so_far_room s.read x h a e)

    pub stored_more : Stored P bytes before (count + 2) (set (set list count a.first) (count + 1) a.second) (k + 1)
    stored_more =
        let front : take count list ≡ s.done = rw s.entries (take_at s.done (drop count before) count s.counted) in
        let back : drop (count + 2) list ≡ drop (count + 2) before =
        rw s.entries
        (ap (λ (j : ℕ). drop (j + 2) (s.done ++ drop count before)) (sym s.counted)
        ∙ drop-append-add s.done (drop count before) 2
        ∙ drop-drop 2 count before) in
        record {
          done = (s.done ++ (a.first ∷ [])) ++ (a.second ∷ []);
          read = so_far_more s.read x h a e;
          counted = omega (arith, length-append (s.done ++ (a.first ∷ [])) (a.second ∷ []), length-append s.done (a.first ∷ []), s.counted);
          entries =
              rw (add-one count)
              (sets-eq (a.first ∷ a.second ∷ []) list count (omega (arith, stored_room))
              ∙ ap (λ (l : List ℕ). (l ++ (a.first ∷ a.second ∷ [])) ++ drop (count + 2) list) front
              ∙ ap (λ (l : List ℕ). (s.done ++ (a.first ∷ a.second ∷ [])) ++ l) back
              ∙ ap (λ (l : List ℕ). l ++ drop (count + 2) before) (sym (append_assoc s.done (a.first ∷ []) (a.second ∷ []))));
        }
