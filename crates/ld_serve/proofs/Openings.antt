-- A node is opened.
use Rattle.std.proofs.Common.{◌≡◌, ◌⊎◌, ◌≤◌, ◌-◌, ◌^◌, ◌==◌, ℕ, List, [], ◌∷◌, ◌++◌, Bool, true, false, cond, Option, None, Some, Ok, Err, ap, sym, ◌∙◌, subst, refl, inl, inr, ⊎_elim}
use Rattle.std.specs.Prelude.{IfSome, IsErrOf}
use Rattle.std.specs.declared.result.Result.{Result}
use Rattle.ld_io.specs.Causes.{Rose}
use Rattle.ld_disk.specs.declared.disk.Disk.{Ghosts}
use Rattle.ld_journal.proofs.Reading.{one_reading}
use Rattle.ld_msg.specs.Register.{Register as Contents, generation_of}
use Rattle.ld_op.specs.declared.record.Record.{Record}
use Rattle.ld_op.specs.declared.version.Version.{Version}
use Rattle.ld_op.specs.declared.version.Version.TheVariants as versions
use Rattle.ld_op.specs.Plain.{Plain, unformatted, apply}
use Rattle.ld_op.specs.Records as records
use Rattle.ld_layout.specs.Layout.{Layout, Segment, new_layout}
use Rattle.ld_segment.specs.Ops.{bodies_of, place_behind, op_count, ArePlaced}
use Rattle.ld_segment.specs.Lies.{Slots, IsIndexed, head_of, written}
use Rattle.ld_segment.proofs.Bodies.{blank_is}
use Rattle.ld_segment.proofs.Kept.{some_ops}
use Rattle.ld_segment.proofs.Before as journals
use Rattle.ld_store.specs.Ops.{StandsFor, IfStands, IsOfFirst, HasNoRoom, IsDamaged}
use Rattle.ld_store.specs.Loads.{LeftOrMarked}
use Rattle.ld_register.specs.declared.fault.RegisterFault.TheVariants as refusals
use Rattle.ld_register.specs.declared.register.Drawn.{Drawn}
use Rattle.ld_register.specs.Calls.{drawn, after_draw, is_full, draw_length}
use Rattle.ld_node.specs.declared.node.Node.{Node}
use Rattle.ld_node.specs.declared.fault.NodeFault.{NodeFault}
use Rattle.ld_node.specs.declared.fault.NodeFault.TheVariants as nodes
use Rattle.ld_node.specs.Draws.{answered}
use Rattle.ld_node.specs.Formats.{format_of}
use Rattle.ld_node.specs.Formats as formats
use Rattle.ld_node.specs.Node.{plain_of, is_blank, layout_of, slots_of, Holds, IsOpened}
use Rattle.ld_node.specs.Changes.{IsPast}
use Rattle.ld_serve.specs.declared.stop.Stop.{Stop}
use Rattle.ld_serve.specs.declared.stop.Stop.TheVariants as stops
use Rattle.ld_serve.specs.Opening.{IsBlank, IsOpening, ShowsSame, Draws, HoldsDraw, LeftByFormat, Formats, StoreIsFull, IsOpeningStop, stop_of_load, stop_of_format}
use Rattle.ld_layout.specs.declared.segment.Growth.TheVariants.{Still}

-- ---- disks on which no record stands ----

pub blank_stands : (bytes : List ℕ) → IsBlank bytes → StandsFor unformatted bytes
blank_stands bytes blank = journals.before [] bytes blank

-- they aren't of the first version
none_of_first : (y : Layout) (a : Option Segment) (vs : List Record) (z : Slots) (opening : Version) (bytes : List ℕ) → bodies_of vs ++ head_of y a ≡ [] → ArePlaced versions.Blank vs opening → IsIndexed opening versions.First y z a vs bytes → ⊥
none_of_first y None [] z opening bytes none placed is = (let e : Some versions.Blank ≡ Some versions.First = placed.version_is ∙ ap Some (sym is.0) in cc e)
none_of_first y (Some g) [] z opening bytes none placed is = cc none
none_of_first y a (v ∷ vs) z opening bytes none placed is = cc none

not_first : (bytes : List ℕ) → IsBlank bytes → IsOfFirst bytes → ⊥
not_first bytes blank was =
    let y = was.layout in
    none_of_first y y.later was.lies.records was.slots was.lies.first bytes (one_reading bytes _ _ was.lies.journal blank.journal) was.lies.placed was.lies.index_is

-- a blank disk isn't marked, and shows the same
pub blank_shows : (seen seen_now : Option (List ℕ)) → (seen_now ≡ seen) ⊎ IfSome seen (IfStands IsOfFirst) → IfSome seen IsBlank → ShowsSame seen seen_now
blank_shows None seen_now either blank = tt
blank_shows (Some bytes) seen_now either blank = ⊎_elim (λ same. same) (λ was. absurd (not_first bytes blank (was unformatted (blank_stands bytes blank)))) either

-- they lie as a new journal
new_laid : (y : Layout) (z : Slots) (bytes : List ℕ) (a : Option Segment) (vs : List Record) (opening : Version) → (y.ops == 0) ≡ true → ArePlaced versions.Blank vs opening → IsIndexed opening (written y) y z a vs bytes
    → y.ops ≡ op_count vs → y.end ≡ place_behind vs → y.later ≡ a → y.grows ≡ Still → y ≡ new_layout
new_laid y z bytes None [] opening blank placed is ops end later still = λ i. record { ops = ops i; end = end i; later = later i; index = is.1 i; grows = still i }
new_laid y z bytes None (v ∷ vs) opening blank placed is ops end later still =
    let e : true ≡ false = sym (ap (λ b. records.is_blank (cond b versions.Blank versions.Second)) blank) ∙ ap records.is_blank is.0 ∙ blank_is (v ∷ vs) opening placed.version_is in absurd (cc e)
new_laid y z bytes (Some g) vs opening blank placed is ops end later still = let e : true ≡ false = sym blank ∙ some_ops opening y z g y.index bytes is in absurd (cc e)

-- ---- a load that is refused ----

module _ (disk_before disk_now : ℕ) (seen : Option (List ℕ)) (register_before register_now : ℕ) (Told : Type 0) (holds : Contents → Type 0) (damaged : ℕ → Type 0) (id : ℕ) (format : Bool) where
  pub load_caused : (fault : NodeFault) → (fault ≡ nodes.Disk → Rose disk_before disk_now)
      → ((place : ℕ) → fault ≡ nodes.Damaged place → IfSome seen (IsDamaged place))
      → (fault ≡ nodes.Full → IfSome seen (IfStands HasNoRoom))
      → IsOpeningStop disk_before disk_now seen register_before register_now Told holds damaged id format (stop_of_load fault)
  load_caused nodes.Disk disk place full = disk refl
  load_caused (nodes.Damaged at) disk place full = place at refl
  load_caused nodes.Full disk place full = inl (full refl)
  load_caused nodes.NeedsLoad disk place full = tt
  load_caused (nodes.Register fault) disk place full = tt
  load_caused nodes.NoMemory disk place full = tt

-- ---- a format that is refused ----

module _ (disk_before disk_now : ℕ) (seen : Option (List ℕ)) (register_before register_now : ℕ) (Told : Type 0) (holds : Contents → Type 0) (damaged : ℕ → Type 0) (id : ℕ) (format : Bool) where
  pub format_caused : (fault : NodeFault) → Formats disk_before disk_now seen register_before register_now Told holds damaged id format
      → (fault ≡ nodes.Disk → Rose disk_before disk_now) → (fault ≡ nodes.Register refusals.Failed → Rose register_before register_now)
      → ((place : ℕ) → fault ≡ nodes.Register (refusals.Damaged place) → Told → damaged place)
      → (fault ≡ nodes.Full → StoreIsFull disk_before disk_now seen register_before register_now Told holds damaged id format)
      → (fault ≡ nodes.Register refusals.Full → Told → (c : Contents) × holds c × (is_full c draw_length ≡ true))
      → (fault ≡ nodes.Register refusals.GenLimit → Told → (c : Contents) × holds c × (2 ^ 32 - 1 ≤ generation_of c id))
      → IsOpeningStop disk_before disk_now seen register_before register_now Told holds damaged id format (stop_of_format fault)
  format_caused nodes.Disk f disk register place store full limit = disk refl
  format_caused (nodes.Damaged at) f disk register place store full limit = tt
  format_caused nodes.Full f disk register place store full limit = inr (f, store refl)
  format_caused nodes.NeedsLoad f disk register place store full limit = tt
  format_caused (nodes.Register refusals.Failed) f disk register place store full limit = (f, register refl)
  format_caused (nodes.Register (refusals.Damaged at)) f disk register place store full limit = (f, place at refl)
  format_caused (nodes.Register refusals.LogLimit) f disk register place store full limit = tt
  format_caused (nodes.Register (refusals.Behind lce next)) f disk register place store full limit = tt
  format_caused (nodes.Register (refusals.Overtaken kept)) f disk register place store full limit = tt
  format_caused (nodes.Register refusals.EpochLimit) f disk register place store full limit = tt
  format_caused (nodes.Register refusals.SwapLimit) f disk register place store full limit = tt
  format_caused (nodes.Register refusals.GenLimit) f disk register place store full limit = (f, limit refl)
  format_caused (nodes.Register refusals.Full) f disk register place store full limit = (f, full refl)
  format_caused (nodes.Register refusals.NoMemory) f disk register place store full limit = tt
  format_caused nodes.NoMemory f disk register place store full limit = tt

abbrev refused : NodeFault → Result Drawn NodeFault
refused fault = Err fault

abbrev stop_in : Result Drawn NodeFault → Stop
stop_in (Ok given) = stops.NoMemory
stop_in (Err fault) = stop_of_format fault

-- what the register held it holds with the draw or without it, unless it failed
pub draw_or_not : (fault : NodeFault) (holds_now : Contents → Type 0) (c : Contents) (i j : ℕ) → i ≡ j → IsErrOf (refused fault) (nodes.Register refusals.Failed) ⊎ holds_now c ⊎ holds_now (after_draw c i)
    → (stop_of_format fault ≡ stops.Register) ⊎ holds_now c ⊎ holds_now (after_draw c j)
draw_or_not fault holds_now c i j same held =
    subst (λ (n : ℕ). (stop_of_format fault ≡ stops.Register) ⊎ holds_now c ⊎ holds_now (after_draw c n)) same (⊎_elim (λ failed. inl (ap stop_in failed)) (λ more. inr more) held)

-- where the disk didn't fail, it shows what it showed before the format
pub shows_still : (fault : NodeFault) (seen before now : Option (List ℕ)) → ShowsSame seen before → IsErrOf (refused fault) nodes.Disk ⊎ (now ≡ before) → (stop_of_format fault ≡ stops.Disk) ⊎ ShowsSame seen now
shows_still fault seen before now shows either = ⊎_elim (λ failed. inl (ap stop_in failed)) (λ same. inr (subst (λ o. ShowsSame seen o) (sym same) shows)) either

-- what may be left by a load
pub left_by_load : (holds : Contents → Type 0) (id : ℕ) (format : Bool) (o : Option (List ℕ)) (before left : List ℕ → Type 0) (Leaves : List ℕ → Type 0)
    → ((shown : List ℕ) → Leaves shown → (c : List ℕ) → left c → LeftOrMarked before shown c)
    → IfSome o Leaves → IfSome o (λ shown. (c : List ℕ) → left c → LeftOrMarked before shown c ⊎ ((format ≡ true) × LeftByFormat holds id c))
left_by_load holds id format None before left Leaves each leaves = tt
left_by_load holds id format (Some shown) before left Leaves each leaves = λ c is. inl (each shown leaves c is)

-- ---- what the node holds then, where the disk has shown some bytes ----

pub held_too : {A B : Type 0} (seen : Option (List ℕ)) → (A → B) → IfSome seen (IfStands (λ _. A)) → IfSome seen (IfStands (λ _. B))
held_too None f held = tt
held_too (Some bytes) f held = λ p stands. f (held p stands)

module _ {D : Type 0} {g : Ghosts D} (seen : D → Option (List ℕ)) (may_leave : D → List ℕ → Type 0) (holds : Contents → Type 0) (id : ℕ) (format : Bool) where
  pub blank_opens : (o : Option (List ℕ)) (node : Node D g) → is_blank node ≡ true → IfSome o (IsOpened seen may_leave node) → IfSome o IsBlank
  blank_opens None node blank opened = tt
  blank_opens (Some bytes) node blank opened = opened.blank blank

  blank_state : (bytes : List ℕ) (node : Node D g) → is_blank node ≡ true → IsOpened seen may_leave node bytes → plain_of node ≡ unformatted
  blank_state bytes node blank opened = opened.plain unformatted (blank_stands bytes (opened.blank blank))

  blank_holds : (bytes : List ℕ) (node : Node D g) → is_blank node ≡ true → IsOpened seen may_leave node bytes → Holds seen may_leave node
  blank_holds bytes node blank opened = opened.holds unformatted (blank_stands bytes (opened.blank blank))

  blank_layout : (node : Node D g) → is_blank node ≡ true → (layout_of node).grows ≡ Still → Holds seen may_leave node → layout_of node ≡ new_layout
  blank_layout node blank still held =
      let y = layout_of node in
      new_laid y (slots_of node) held.bytes y.later held.lies.records held.lies.first (sym held.blank ∙ blank) held.lies.placed held.lies.index_is held.lies.ops_is held.lies.end_is refl still

  pub blank_full : (o : Option (List ℕ)) (old : Node D g) → is_blank old ≡ true → (layout_of old).grows ≡ Still → IfSome o (IsOpened seen may_leave old)
      → (Holds seen may_leave old → (c : Contents) → holds c → (given : Drawn) × (answered given ≡ drawn c id) × IsPast (layout_of old) (Some (format_of given)))
      → IfSome o (λ bytes. (c : Contents) → holds c → (given : Drawn) × (answered given ≡ drawn c id) × IsPast new_layout (Some (format_of given)))
  blank_full None old blank still opened full = tt
  blank_full (Some bytes) old blank still opened full =
      let held = blank_holds bytes old blank opened in
      subst (λ (y : Layout). (c : Contents) → holds c → (given : Drawn) × (answered given ≡ drawn c id) × IsPast y (Some (format_of given))) (blank_layout old blank still held) (full held)

  -- a node that isn't blank represents what its disk represented
  pub opens_found : (holds_now : Contents → Type 0) (o : Option (List ℕ)) (node : Node D g) → is_blank node ≡ false → IfSome o (IsOpened seen may_leave node)
      → IfSome o (IfStands (IsOpening holds holds_now id format (plain_of node)))
  opens_found holds_now None node some opened = tt
  opens_found holds_now (Some bytes) node some opened = λ p stands. inl (record { some = opened.some some; stands = subst (λ q. StandsFor q bytes) (sym (opened.plain p stands)) stands })

  pub held_found : (o : Option (List ℕ)) (node : Node D g) → IfSome o (IsOpened seen may_leave node) → IfSome o (IfStands (λ _. Holds seen may_leave node))
  held_found None node opened = tt
  held_found (Some bytes) node opened = λ p stands. opened.holds p stands

  -- and one that was blank and is formatted, for the format
  pub opens_formatted : (holds_now : Contents → Type 0) (o : Option (List ℕ)) (old new : Node D g) (given : Drawn) → format ≡ true → is_blank old ≡ true → IfSome o (IsOpened seen may_leave old)
      → (Holds seen may_leave old → plain_of new ≡ apply (plain_of old) (format_of given)) → Draws holds id given → HoldsDraw holds holds_now id → IfSome o (IfStands (IsOpening holds holds_now id format (plain_of new)))
  opens_formatted holds_now None old new given asked blank opened made drawn drew = tt
  opens_formatted holds_now (Some bytes) old new given asked blank opened made drawn drew = λ p stands. inr (record {
    asked = asked;
    blank = opened.blank blank;
    given = given;
    drawn = drawn;
    drew = drew;
    state = made (blank_holds bytes old blank opened) ∙ ap (λ (q : Plain). apply q (format_of given)) (blank_state bytes old blank opened);
  })

  -- what it holds then
  pub held_formatted : (o : Option (List ℕ)) (old new : Node D g) → is_blank old ≡ true → IfSome o (IsOpened seen may_leave old) → (Holds seen may_leave old → Holds seen may_leave new) → IfSome o (IfStands (λ _. Holds seen may_leave new))
  held_formatted None old new blank opened made = tt
  held_formatted (Some bytes) old new blank opened made = λ p stands. made (blank_holds bytes old blank opened)

  -- what may be left by a format that was refused
  pub left_by_format : (o : Option (List ℕ)) (old : Node D g) (before left : List ℕ → Type 0) → format ≡ true → is_blank old ≡ true → IfSome o (IsOpened seen may_leave old)
      → (Holds seen may_leave old → (c : List ℕ) → left c → formats.LeftByFormat (plain_of old) (Draws holds id) c)
      → IfSome o (λ shown. (c : List ℕ) → left c → LeftOrMarked before shown c ⊎ ((format ≡ true) × LeftByFormat holds id c))
  left_by_format None old before left asked blank opened leaves = tt
  left_by_format (Some bytes) old before left asked blank opened leaves =
      let plain = blank_state bytes old blank opened in
      λ c is. inr (
        asked,
        ⊎_elim (λ stands. inl (subst (λ (p : Plain). StandsFor p c) plain stands))
            (λ given. inr (given.0, given.1, subst (λ (p : Plain). StandsFor (apply p (format_of given.0)) c) plain given.2))
            (leaves (blank_holds bytes old blank opened) c is),
      )
