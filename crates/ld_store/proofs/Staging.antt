-- Ops that are staged, as a disk has them: one more, and all of them made durable.
use Rattle.std.proofs.Common.{◌≡◌, inl, inr, ⊎_elim, refl, ℕ, ◌+◌, ◌-◌, ◌≤◌, List, length, Option, None, Some, Bool, true, false, cond, OnOk, Result, Ok, Err, sym, ◌∙◌, ap, subst, arith}
use Rattle.ld_disk.specs.Images.{Torn}
use Rattle.ld_disk.specs.Moments.{LeavesOnly}
use Rattle.ld_journal.specs.Format.{behind}
use Rattle.ld_msg.specs.Register.{journal_limit}
use Rattle.ld_op.specs.declared.op.Op.{Op}
use Rattle.ld_op.specs.declared.record.Record.TheVariants.{Now}
use Rattle.ld_op.specs.Plain.{Plain, apply, op_length}
use Rattle.ld_op.specs.Bytes.{op_bytes}
use Rattle.ld_op.specs.Cells.{read_plain}
use Rattle.ld_layout.specs.Layout.{Layout, switches, kept_in, kind_of}
use Rattle.ld_segment.specs.Stays.{Rests}
use Rattle.ld_segment.specs.Left.{staged}
use Rattle.ld_segment.specs.Lies.{Slots, StandsFor, StandsForEither, MayKeep, written, gate_in, with_body, slots_after, slots_with}
use Rattle.ld_segment.specs.Plans.{Planned, made_before, planned, planned_by}
use Rattle.ld_segment.specs.Groups.{Tears, IsStaged, IsGroup, IsStageTorn, IsGroupTorn, opened_at}
use Rattle.ld_segment.proofs.Bodies.{record_long}
use Rattle.ld_segment.proofs.Planning.{stay_is}
use Rattle.ld_segment.proofs.Steps.{said_as}
use Rattle.ld_store.specs.Low.{IsLow}
use Rattle.ld_store.specs.Group.{told_plain, first_in, IsSafeAs, IsGroupOn, IsGroupWith}
use Rattle.ld_segment.proofs.Groups as groups

pub on_ok : {T E A B : Type 0} (r : Result T E) → OnOk r A → (A → B) → OnOk r B
on_ok (Ok x) a f = f a
on_ok (Err e) a f = tt

-- a group's gate lies within the limit
pub first_low : (first : Option ℕ) (is_full : Bool) (gate : ℕ) → IsLow first → gate ≤ journal_limit → first_in first is_full gate ≤ journal_limit
first_low None is_full gate low here = here
first_low (Some at) true gate low here = here
first_low (Some at) false gate low here = low

-- a record that finds room goes behind the last gate
goes_is : (y : Layout) (z : Slots) (o : Op) → switches y (op_length o) ≡ false → planned (kind_of y) y z (op_bytes o) ≡ planned_by (kind_of y) y z (op_bytes o) (length (op_bytes o)) false
goes_is y z o goes = stay_is (kind_of y) y z (op_bytes o) (ap (switches y) (record_long (Now o)) ∙ goes)

-- the plan of an op's body
pub plan_as : (a : Planned) (y : Layout) (z : Slots) (body : List ℕ) (o : Op) → a ≡ planned (kind_of y) y z body → body ≡ op_bytes o → a ≡ planned (kind_of y) y z (op_bytes o)
plan_as a y z body o plan is = plan ∙ ap (planned (kind_of y) y z) is

pub full_as : (full some : Bool) (y : Layout) (size : ℕ) (o : Op) → full ≡ some → some ≡ switches y size → size ≡ op_length o → full ≡ switches y (op_length o)
full_as full some y size o is stays long = is ∙ stays ∙ ap (switches y) long

slots_stay : (y : Layout) (z : Slots) (o : Op) → switches y (op_length o) ≡ false → slots_with y z (op_length o) ≡ z
slots_stay y z o goes = ap (λ t. cond t (slots_after y z y.later) z) goes

module _ {D : Type 0} (seen : D → Option (List ℕ)) (may_leave : D → List ℕ → Type 0) where
  -- ---- what there is ----

  pub group_stands : (disk : D) (first : Option ℕ) (p : Plain) (y : Layout) (z : Slots) → IsGroupOn seen may_leave disk first p y z → (c : List ℕ) → may_leave disk c → StandsFor p c
  group_stands disk None p y z safe c is = subst (λ l. StandsFor p l) (sym (safe.rests.stable c is)) (record { version = written y; layout = y; slots = z; lies = safe.lies; sound = safe.sound; plain = safe.plain })
  group_stands disk (Some gate) p y z s c is = groups.left p y z gate s.safe s.shown s.group s.size s.size_is c (s.tears.images c is)

  -- a disk of the same bytes, of which a crash leaves no more
  pub group_too : (old new : D) (first : Option ℕ) (p : Plain) (y : Layout) (z : Slots) → seen new ≡ seen old → ((c : List ℕ) → may_leave new c → may_leave old c) → IsGroupOn seen may_leave old first p y z → IsGroupOn seen may_leave new first p y z
  group_too old new None p y z same from safe = record {
    bytes = safe.bytes;
    rests = record { bytes_are = same ∙ safe.rests.bytes_are; stable = λ c is. safe.rests.stable c (from c is) };
    lies = safe.lies;
    sound = safe.sound;
    plain = safe.plain;
  }
  group_too old new (Some gate) p y z same from s = record {
    safe = s.safe;
    shown = s.shown;
    size = s.size;
    size_is = s.size_is;
    tears = record { bytes_are = same ∙ s.tears.bytes_are; images = λ c is. s.tears.images c (from c is) };
    group = s.group;
  }

  -- an op more on it
  pub with_from : (old mid new : D) (gate : ℕ) (p : Plain) (y : Layout) (z : Slots) (o : Op) → seen mid ≡ seen old → IsGroupWith seen may_leave mid new gate p y z o → IsGroupWith seen may_leave old new gate p y z o
  with_from old mid new gate p y z o same with_op =
      let is : told_plain (seen mid) y.index ≡ told_plain (seen old) y.index = ap (λ t. told_plain t y.index) same in
      record {
        q = with_op.q;
        either = ⊎_elim (λ was. inl was) (λ now. inr (now ∙ is)) with_op.either;
        staged = with_op.staged;
        plain = with_op.plain ∙ ap (λ q. apply q o) is;
      }

  -- ---- one op more ----

  module _ (p : Plain) (y : Layout) (z : Slots) (o : Op) (may : MayKeep y o) where
    abbrev w : Planned
    w = planned (kind_of y) y z (op_bytes o)

    -- the first of a group
    pub begun : (old new : D) (safe : IsSafeAs seen may_leave old p y z)
        → Tears seen may_leave new (w.gate + 1) (length (behind w.body)) (made_before w.before safe.bytes) (staged w.gate w.body (made_before w.before safe.bytes))
        → IsGroupWith seen may_leave old new w.gate p y z o
    begun old new safe tears =
        let begins = groups.begins_as y z safe.bytes o safe.lies safe.sound may w refl in
        record {
          q = p;
          either = inl refl;
          staged = record {
            safe = made_before w.before safe.bytes;
            shown = staged w.gate w.body (made_before w.before safe.bytes);
            size = length (behind w.body);
            size_is = begins.size;
            tears = tears;
            group = subst (λ q. IsGroup q (kept_in y o) (slots_with y z (op_length o)) w.gate (made_before w.before safe.bytes) (staged w.gate w.body (made_before w.before safe.bytes))) (sym safe.plain) begins.group;
          };
          plain = ap (λ t. told_plain t (kept_in y o).index) tears.bytes_are ∙ begins.plain ∙ ap (λ t. apply (told_plain t y.index) o) (sym safe.rests.bytes_are);
        }

    pub begun_torn : (old : D) (safe : IsSafeAs seen may_leave old p y z) (c : List ℕ) → IsStageTorn w safe.bytes c → StandsFor p c
    begun_torn old safe c torn = subst (λ q. StandsFor q c) (sym safe.plain) ((groups.begins_as y z safe.bytes o safe.lies safe.sound may w refl).torn c torn)

    -- one that goes behind the others
    module _ (goes : switches y (op_length o) ≡ false) (old : D) (gate : ℕ) (s : IsStaged seen may_leave old gate p y z) where
      abbrev at : ℕ
      at = gate_in y y.later

      abbrev m : ℕ
      m = at + 5 + length (op_bytes o) - gate

      long : gate + m ≡ at + 5 + length (op_bytes o)
      long = omega (arith, s.group.past)

      group_now : IsGroup p (kept_in y o) z gate s.safe (with_body at (op_bytes o) s.shown)
      group_now = groups.goes_on p y z gate s.safe s.shown s.group o may goes

      size_now : gate + m ≡ gate_in (kept_in y o) (kept_in y o).later
      size_now = long ∙ groups.size_then p y z gate s.safe s.shown s.group o may goes

      with_it : (new : D) → Tears seen may_leave new (gate + 1) m s.safe (with_body at (op_bytes o) s.shown) → IsGroupWith seen may_leave old new gate p y z o
      with_it new tears = record {
        q = p;
        either = inl refl;
        staged = subst (λ x. IsStaged seen may_leave new gate p (kept_in y o) x) (sym (slots_stay y z o goes)) (record {
          safe = s.safe;
          shown = with_body at (op_bytes o) s.shown;
          size = m;
          size_is = size_now;
          tears = tears;
          group = group_now;
        });
        plain = ap (λ t. told_plain t (kept_in y o).index) tears.bytes_are ∙ groups.read_then p y z gate s.safe s.shown s.group o may goes ∙ ap (λ t. apply (told_plain t y.index) o) (sym s.tears.bytes_are);
      }

      torn_there : (c : List ℕ) → Torn (gate + 1) m s.safe c → StandsFor p c
      torn_there c torn = groups.left p (kept_in y o) z gate s.safe (with_body at (op_bytes o) s.shown) group_now m size_now c torn

      -- its calls, as its plan has them
      abbrev Places : Planned → ℕ → Type 0
      Places a k = (gate + 1 ≤ a.gate) × (s.size ≤ k) × (gate + 1 + k ≡ a.gate + 6 + length a.body)

      places : (a : Planned) → a ≡ w → Places a m
      places a is = subst (λ b. Places b m) (sym (is ∙ goes_is y z o goes)) (omega (arith, s.group.past), omega (arith, s.size_is, long), omega (arith, long))

      pub gone_on : {T E : Type 0} (r : Result T E) (new : D) (a : Planned) → a ≡ w
          → ((from n k : ℕ) (safe shown : List ℕ) → Tears seen may_leave old from n safe shown → from ≤ a.gate → n ≤ k → from + k ≡ a.gate + 6 + length a.body → OnOk r (Tears seen may_leave new from k safe (with_body a.gate a.body shown)))
          → OnOk r (IsGroupWith seen may_leave old new gate p y z o)
      gone_on r new a is clause =
          let at_place = places a is in
          on_ok r (clause (gate + 1) s.size m s.safe s.shown s.tears at_place.0 at_place.1 at_place.2)
          (λ tears. with_it new (subst (λ (b : Planned). Tears seen may_leave new (gate + 1) m s.safe (with_body b.gate b.body s.shown)) (is ∙ goes_is y z o goes) tears))

      pub gone_on_leaves : (moment : D → ℕ) (left_since : D → ℕ → List ℕ → Type 0) (new : D) (q : Plain) (a : Planned) → a ≡ w
          → ((from n k : ℕ) (safe shown : List ℕ) → Tears seen may_leave old from n safe shown → from ≤ a.gate → n ≤ k → from + k ≡ a.gate + 6 + length a.body → LeavesOnly moment left_since old new (Torn from k safe))
          → LeavesOnly moment left_since old new (StandsForEither p q)
      gone_on_leaves moment left_since new q a is clause =
          let at_place = places a is in
          said_as seen may_leave moment left_since old new (Torn (gate + 1) m s.safe) (StandsForEither p q) (clause (gate + 1) s.size m s.safe s.shown s.tears at_place.0 at_place.1 at_place.2) (λ c torn. inl (torn_there c torn))

    -- ---- the calls of the first one ----

    module _ (moment : D → ℕ) (left_since : D → ℕ → List ℕ → Type 0) (old : D) (safe : IsSafeAs seen may_leave old p y z) where
      pub begun_on : {T E : Type 0} (r : Result T E) (new : D) (a : Planned) → a ≡ w
          → ((b : List ℕ) → Rests seen may_leave old b → OnOk r (Tears seen may_leave new (a.gate + 1) (length (behind a.body)) (made_before a.before b) (staged a.gate a.body (made_before a.before b))))
          → OnOk r (IsGroupWith seen may_leave old new a.gate p y z o)
      begun_on r new a is clause =
          on_ok r (clause safe.bytes safe.rests)
          (λ tears. subst (λ (b : Planned). IsGroupWith seen may_leave old new b.gate p y z o) (sym is)
          (begun old new safe (subst (λ (b : Planned). Tears seen may_leave new (b.gate + 1) (length (behind b.body)) (made_before b.before safe.bytes) (staged b.gate b.body (made_before b.before safe.bytes))) is tears)))

      pub begun_leaves : (new : D) (q : Plain) (a : Planned) → a ≡ w → ((b : List ℕ) → Rests seen may_leave old b → LeavesOnly moment left_since old new (IsStageTorn a b)) → LeavesOnly moment left_since old new (StandsForEither p q)
      begun_leaves new q a is clause =
          said_as seen may_leave moment left_since old new (IsStageTorn a safe.bytes) (StandsForEither p q) (clause safe.bytes safe.rests)
          (λ c torn. inl (begun_torn old safe c (subst (λ (b : Planned). IsStageTorn b safe.bytes c) is torn)))

  -- ---- all of it made durable ----

  module _ (p : Plain) (y : Layout) (z : Slots) (old : D) (gate : ℕ) (s : IsStaged seen may_leave old gate p y z) where
    -- the plain state that the store has
    abbrev now_plain : Plain
    now_plain = told_plain (seen old) y.index

    read_is : now_plain ≡ read_plain s.shown y.index
    read_is = ap (λ t. told_plain t y.index) s.tears.bytes_are

    pub opened : (new : D) → Rests seen may_leave new (opened_at gate s.shown) → IsSafeAs seen may_leave new now_plain y z
    opened new rests = record { bytes = opened_at gate s.shown; rests = rests; lies = s.group.lies; sound = s.group.sound; plain = read_is ∙ s.group.read }

    pub opened_plain : (new : D) → Rests seen may_leave new (opened_at gate s.shown) → told_plain (seen new) y.index ≡ now_plain
    opened_plain new rests = ap (λ t. told_plain t y.index) rests.bytes_are ∙ sym (read_is ∙ s.group.read)

    pub open_torn : (reads : may_leave old s.shown) (c : List ℕ) → IsGroupTorn gate s.size s.safe s.shown c → StandsForEither p now_plain c
    open_torn reads c torn = subst (λ q. StandsForEither p q c) (sym read_is) (groups.either p y z gate s.safe s.shown s.group s.size s.size_is (s.tears.images s.shown reads) c torn)

    -- an op behind it
    pub behind_all : (mid new : D) (first : ℕ) (o : Op) → told_plain (seen mid) y.index ≡ now_plain → IsGroupWith seen may_leave mid new first now_plain y z o → IsGroupWith seen may_leave old new first p y z o
    behind_all mid new first o same with_op = record {
      q = with_op.q;
      either = inr (⊎_elim (λ is. is) (λ is. is ∙ same) with_op.either);
      staged = with_op.staged;
      plain = with_op.plain ∙ ap (λ q. apply q o) same;
    }
