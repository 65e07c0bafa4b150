-- Text put piece by piece: the digits of a number, a line field by field, and lines one by one. Assumes nothing.
use Prim.Native.Nat.{ℕ, zero, suc, ◌+◌, ◌-◌, ◌/◌, ◌%◌, ◌^◌, ◌≤◌, ◌<◌}
use mathlib.Core.Path.{◌≡◌, refl, sym, ◌∙◌, ap, ap₂, subst}
use mathlib.Core.Bool.{Bool, true, false}
use mathlib.Core.List.{List, [], ◌∷◌, ◌++◌, append_assoc, append-nil}
use native.Mathlib.Omega.{arith}
use borrow.Author.Tests.{ne_eqb, lt-ltb, ltb-false, ltb-true}
use lib.Dec.{ltb}
use lib.ListN.{length, take, drop, length-append}
use Rattle.std.specs.Borrow.{GName}
use Rattle.std.proofs.lemmas.List.{drop-drop, take-append-drop}
use lib.Seq.{append_snoc}
use Rattle.std.specs.Fmt as Fmt
use Rattle.std.specs.Fmt.{digits, digits_onto}
use Rattle.appointments.specs.Appointments.{Appt, appts}
use Rattle.appointments.proofs.Flat.{rest_cons, rest_none, appts_count}
use Rattle.words.specs.Ascii.{ascii, space, line_feed}
use Rattle.words.specs.Basics.{pick}
use Rattle.printing.specs.Printing.{decimal_by, decimal, line, party_line, appointment_lines, party_lines, plan_lines}
use Rattle.printing.specs.Placed.{State, slice, Fits, Placed, Printed, field, appointment_line_at}

-- ── one piece behind another ──

pub room_first : {before : State} {bytes : List ℕ} (more : List ℕ) → Fits before (bytes ++ more) → Fits before bytes
room_first {bytes = bytes} more r = record { room = omega (arith, r.room, length-append bytes more) }

pub room_then : {before between : State} {bytes : List ℕ} (more : List ℕ) → Fits before (bytes ++ more) → Placed before bytes between → Fits between more
room_then {bytes = bytes} more r p = record { room = omega (arith, r.room, p.counted, p.holds, length-append bytes more) }

pub placed_none : (before : State) → Placed before [] before
placed_none before = record { stored = sym (append-nil before.text); counted = omega arith; holds = refl; stays = refl; same = refl }

pub placed_then : {before between after : State} {bytes more : List ℕ} → Placed before bytes between → Placed between more after → Placed before (bytes ++ more) after
placed_then {before} {between} {after} {bytes} {more} p q =
    record {
      stored = rw (q.stored, p.stored) (append_assoc before.text bytes more);
      counted = omega (arith, p.counted, q.counted, length-append bytes more);
      holds = q.holds ∙ p.holds;
      stays = rw (q.stays, p.stays, length-append bytes more) (drop-drop (length more) (length bytes) before.behind);
      same = q.same ∙ p.same;
    }

-- what is put under another name
pub room_as : {before : State} {bytes fields : List ℕ} → bytes ≡ fields → Fits before bytes → Fits before fields
room_as {before} e r = subst (Fits before) e r

pub placed_as : {before after : State} {bytes fields : List ℕ} → bytes ≡ fields → Placed before fields after → Placed before bytes after
placed_as {before} {after} e p = subst (λ (l : List ℕ). Placed before l after) (sym e) p

-- lines that are put one by one: what was put and what is to come is the whole
pub record Underway (before : State) (whole : List ℕ) (now : State) (rest : List ℕ) : Type 0 where
  pub done : List ℕ
  pub placed : Placed before done now
  pub split : done ++ rest ≡ whole

pub underway_start : (before : State) {whole rest : List ℕ} → rest ≡ whole → Underway before whole before rest
underway_start before e = record { done = []; placed = placed_none before; split = e }

module _ {before : State} {whole : List ℕ} {now : State} {rest : List ℕ} (u : Underway before whole now rest) where
  module _ (this later : List ℕ) (e : rest ≡ this ++ later) where
    next : whole ≡ u.done ++ (this ++ later)
    next = sym u.split ∙ ap (λ (l : List ℕ). u.done ++ l) e

    pub underway_room : Fits before whole → Fits now this
    underway_room r = room_first later (room_then (this ++ later) (room_as next r) u.placed)

    pub underway_more : {after : State} → Placed now this after → Underway before whole after later
    underway_more p = record { done = u.done ++ this; placed = placed_then u.placed p; split = append_assoc u.done this later ∙ sym next }

  pub underway_all : rest ≡ [] → Placed before whole now
  underway_all e = placed_as (sym u.split ∙ ap (λ (l : List ℕ). u.done ++ l) e ∙ append-nil u.done) u.placed

-- ── a lent slice ──

-- what stands behind the next place stays, and what stands before it is the text and the bytes behind that
pub placed_slice : (old now bytes : List ℕ) (start count : ℕ) {lent same : GName} → drop count now ≡ drop count old → take count now ≡ take start old ++ bytes
    → count ≡ start + length bytes → length now ≡ length old → same ≡ lent → Placed (slice old start lent) bytes (slice now count same)
placed_slice old now bytes start count stays stored counted holds e =
    record {
      stored = stored;
      counted = counted;
      holds = holds;
      stays = stays ∙ ap (λ (n : ℕ). drop n old) counted ∙ sym (drop-drop (length bytes) start old);
      same = e;
    }

-- What was put from its start on is printed, once what the reference last held is what is lent back.
pub printed : {bytes old now last : List ℕ} {count told : ℕ} {lent same : GName} → Placed (slice old 0 lent) bytes (slice now count same) → last ≡ now → told ≡ count
    → Printed bytes told old last
printed {bytes} {old} {now} {last} {count} p back said =
    record {
      counted = omega (arith, p.counted, said);
      stored = back ∙ sym (take-append-drop count now) ∙ ap₂ (λ (a b : List ℕ). a ++ b) p.stored p.stays;
    }

-- ── a number ──

-- the last digit, and one more, as std writes them
digits_last : (k n : ℕ) (behind : List ℕ) → n < 10 → digits_onto (suc k) 10 false n behind ≡ (48 + n) ∷ behind
digits_last k n behind h =
    let tenth : n / 10 ≡ 0 = omega arith in
    let digit : n % 10 ≡ n = omega arith in
    rw (tenth, digit, lt-ltb n 10 h)

digits_more : (k n : ℕ) (behind : List ℕ) → 10 ≤ n → digits_onto (suc k) 10 false n behind ≡ digits_onto k 10 false (n / 10) ((48 + n % 10) ∷ behind)
digits_more k n behind h =
    let tenth : n / 10 ≡ 0 → ⊥ = λ z. omega arith in
    let digit : n % 10 < 10 = omega arith in
    rw (ne_eqb (n / 10) 0 tenth, lt-ltb (n % 10) 10 digit)

-- ── a number by its digits ──

-- the digits that std writes of a number, in front of others
digits_by : (k f n : ℕ) (behind : List ℕ) → n < 10 ^ suc k → n < f → digits_onto (suc k) 10 false n behind ≡ decimal_by f n ++ behind
unfolding decimal_by
digits_by k zero n behind h l = absurd (omega arith)
digits_by zero (suc f) n behind h l = let small : n < 10 = omega arith in digits_last zero n behind small ∙ ap (λ (t : Bool). pick t ((48 + n) ∷ []) (decimal_by f (n / 10) ++ ((48 + n % 10) ∷ [])) ++ behind) (sym (lt-ltb n 10 small))
digits_by (suc k) (suc f) n behind h l = go (ltb n 10) refl (λ large. digits_by k f (n / 10) ((48 + n % 10) ∷ behind) (omega arith) (omega arith))
  where
    go : (t : Bool) → ltb n 10 ≡ t → (10 ≤ n → digits_onto (suc k) 10 false (n / 10) ((48 + n % 10) ∷ behind) ≡ decimal_by f (n / 10) ++ ((48 + n % 10) ∷ behind))
        → digits_onto (suc (suc k)) 10 false n behind ≡ pick t ((48 + n) ∷ []) (decimal_by f (n / 10) ++ ((48 + n % 10) ∷ [])) ++ behind
    go true e front = digits_last (suc k) n behind (ltb-true n 10 e)
    go false e front =
        let large : 10 ≤ n = ltb-false n 10 e in
        digits_more (suc k) n behind large ∙ front large ∙ sym (append_snoc (decimal_by f (n / 10)) (48 + n % 10) behind)

pub decimal_std : (n : ℕ) → n < 2 ^ 64 → Fmt.decimal n ≡ decimal n
unfolding digits decimal
decimal_std n h =
    let big : n < 10 ^ 64 = omega arith in
    digits_by 63 (suc n) n [] big (omega arith) ∙ append-nil (decimal n)

-- ── a line ──

-- fields parted by a space and ended by a line feed
line_one : (a : List ℕ) → line (a ∷ []) ≡ field a line_feed
unfolding line
line_one a = refl

line_more : (a b : List ℕ) (more : List (List ℕ)) → line (a ∷ b ∷ more) ≡ field a space ++ line (b ∷ more)
unfolding line
line_more a b more = sym (append_snoc a space (line (b ∷ more)))

pub line_2 : (a b : List ℕ) → line (a ∷ b ∷ []) ≡ field a space ++ field b line_feed
line_2 a b = line_more a b [] ∙ ap (λ (l : List ℕ). field a space ++ l) (line_one b)

pub line_3 : (a b c : List ℕ) → line (a ∷ b ∷ c ∷ []) ≡ field a space ++ (field b space ++ field c line_feed)
line_3 a b c = line_more a b (c ∷ []) ∙ ap (λ (l : List ℕ). field a space ++ l) (line_2 b c)

pub line_4 : (a b c d : List ℕ) → line (a ∷ b ∷ c ∷ d ∷ []) ≡ field a space ++ (field b space ++ (field c space ++ field d line_feed))
line_4 a b c d = line_more a b (c ∷ d ∷ []) ∙ ap (λ (l : List ℕ). field a space ++ l) (line_3 b c d)

pub plan_fields : (P : ℕ) (list : List ℕ) (D : ℕ) (slots : List ℕ)
    → plan_lines P list D slots ≡ field (ascii "plan") space ++ (field (decimal D) line_feed ++ (appointment_lines 0 (appts list) slots ++ party_lines (appts list) slots 0 P))
unfolding plan_lines
plan_fields P list D slots =
    let lines : List ℕ = appointment_lines 0 (appts list) slots ++ party_lines (appts list) slots 0 P in
    ap (λ (l : List ℕ). l ++ lines) (line_2 (ascii "plan") (decimal D))
    ∙ append_assoc (field (ascii "plan") space) (field (decimal D) line_feed) lines

-- ── the lines ──

pub appointment_next : (list slots : List ℕ) (i : ℕ) → i < length list / 2
    → appointment_lines i (drop i (appts list)) slots ≡ appointment_line_at list slots i ++ appointment_lines (i + 1) (drop (i + 1) (appts list)) slots
unfolding appointment_lines
appointment_next list slots i h = rw (rest_cons list i h)

pub appointment_last : (list slots : List ℕ) (i : ℕ) → length list / 2 ≤ i → appointment_lines i (drop i (appts list)) slots ≡ []
unfolding appointment_lines
appointment_last list slots i h = rw (rest_none (appts list) i (omega (arith, appts_count list)))

module _ (P : ℕ) (xs : List Appt) (slots : List ℕ) where
  pub party_next : (v : ℕ) → v < P → party_lines xs slots v (P - v) ≡ party_line xs slots v ++ party_lines xs slots (v + 1) (P - (v + 1))
  unfolding party_lines
  party_next v h =
      let on : P - v ≡ suc (P - (v + 1)) = omega arith in
      rw on

  pub party_last : (v : ℕ) → P ≤ v → party_lines xs slots v (P - v) ≡ []
  unfolding party_lines
  party_last v h =
      let over : P - v ≡ zero = omega arith in
      rw over
