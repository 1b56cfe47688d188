-- How far a reader comes by one answer.
use Rattle.std.specs.Prelude.{ℕ, List, [], ◌∷◌, ◌++◌, take, Option, Some, None, Bool, false, if◌then◌else◌}
use Rattle.ld_msg.specs.Register.{View}
use Rattle.ld_msg.specs.Reading.{Item, LossHere}
use Rattle.ld_msg.specs.Reader.{Reader, Read, Confirmation, is_confirmed, most_items, gives, gives_all, nothing_read, next_round}
use Rattle.ld_gap.specs.Restored.{restored}
use Rattle.ld_gap.specs.Slots.{with_slot}
use Rattle.ld_reader.specs.Place.{Place, behind}
use Rattle.ld_reader.specs.Following.{Following, with_reader}
use Rattle.ld_reader.specs.declared.missing.Missed.{Missed}
use Rattle.ld_reader.specs.declared.course.Course.{Course}
use Rattle.ld_reader.specs.declared.reader.Noted.{Noted}
use Rattle.ld_reader.specs.declared.reader.Heard.{Heard}

-- ---- what an answer does before its items, and back ----

-- a confirmation lasts or is ended
abbrev pub lasting : Bool → Reader → Reader
lasting lasts d = record d { confirming = if lasts then d.confirming else None }

-- so many nodes alone have told that they are lost still
abbrev pub told_once : ℕ → Option Confirmation → Option Confirmation
told_once n None = None
told_once n (Some v) = Some (record { round = v.round; asked = v.asked; told = take n v.told })

abbrev pub unnoted : Noted → Following → Following
unnoted n f = with_reader f (record f.reader { confirming = told_once n.told f.reader.confirming })

-- what was noted of a node that it is missing
abbrev pub unmissed : Option Missed → List (ℕ × ℕ) → List (ℕ × ℕ)
unmissed None m = m
unmissed (Some x) m = with_slot x.node x.epoch m

abbrev pub unheard : Heard → Following → Following
unheard h f = unnoted h.noted (with_reader f (record f.reader { held = restored h.replaced f.reader.held; missing = unmissed h.missed f.reader.missing }))

-- ---- the items ----

-- the reader at an offset, with its confirmation if that lasts
abbrev pub placed : Reader → Place → Bool → Reader
placed d p lasts = record d { next = p.next; until = p.until; confirming = if lasts then d.confirming else None }

abbrev pub on_course : Reader → Course → Reader
on_course d c = placed d c.place c.confirming

-- an item more
abbrev pub with_item : Course → Item → Course
with_item c i = record { place = behind c.place i; confirming = false; items = c.items ++ (c.place.next, i) ∷ [] }

-- the loss of the next number comes first, where it is confirmed
abbrev pub sets_out : Reader → Read
sets_out d = if is_confirmed d.confirming then gives (nothing_read d) LossHere else nothing_read d

-- what follows from an answer that was heard, and from the look before a loss
unfoldable pub followed : (ℕ → View) → Reader → Read
followed looks d = next_round looks (gives_all (most_items d) looks (sets_out d))
