-- Messages as frames: a length of four bytes, and so many bytes behind it.
use Rattle.std.specs.Prelude.{ℕ, List, ◌++◌, length, ◌≤◌}
use Rattle.byteorder.specs.Endian.{big_bytes}
use Rattle.ld_ids.specs.Set.{set_bits}
use Rattle.ld_msg.specs.declared.msg.Who.{Who}
use Rattle.ld_msg.specs.declared.msg.Who.TheVariants as whos
use Rattle.ld_msg.specs.declared.msg.Entry.{Entry}
use Rattle.ld_msg.specs.declared.msg.Msg.{Msg}
use Rattle.ld_msg.specs.declared.msg.Body.{Body}
use Rattle.ld_msg.specs.declared.msg.Body.TheVariants as bodies
use Rattle.ld_msg.specs.Bounds.{IsShort, AreEntries}
use Rattle.ld_fields.specs.Items.{what_bytes, entries_bytes, summary_bytes, flag}

-- an actor is a tag and its number
abbrev pub who_bytes : Who → List ℕ
who_bytes (whos.Node n) = big_bytes 1 0 ++ big_bytes 4 n
who_bytes (whos.Sequencer e) = big_bytes 1 1 ++ big_bytes 4 e
who_bytes (whos.Reader r) = big_bytes 1 2 ++ big_bytes 4 r

abbrev pub page_bytes : List Entry → List ℕ
page_bytes es = big_bytes 2 (length es) ++ entries_bytes es

-- those of the bodies that grew since the first version come last, but for the asks for one copy, which are new
unfoldable pub kind_of : Body → ℕ
kind_of (bodies.Store n lng x) = 1
kind_of (bodies.Stored n) = 2
kind_of (bodies.SealedHere n k) = 3
kind_of (bodies.LostHere n round g end) = 4
kind_of (bodies.CleanHere n y) = 17
kind_of (bodies.TrimmedHere n t) = 6
kind_of (bodies.DigestAsk n) = 7
kind_of (bodies.DigestPage n upto t lng es) = 8
kind_of (bodies.Clean e y) = 18
kind_of (bodies.Release n) = 10
kind_of (bodies.Trim t) = 11
kind_of (bodies.ReadAsk round n) = 12
kind_of (bodies.ReadPage round n upto c es) = 13
kind_of (bodies.ReadEnded round n end loss) = 19
kind_of (bodies.ReadTrim round n t) = 15
kind_of (bodies.ReadWait round n r) = 16
kind_of (bodies.ReadOne round n set excluded) = 20

unfoldable pub body_bytes : Body → List ℕ
body_bytes (bodies.Store n lng x) = big_bytes 8 n ++ (big_bytes 4 lng ++ what_bytes x)
body_bytes (bodies.Stored n) = big_bytes 8 n
body_bytes (bodies.SealedHere n k) = big_bytes 8 n ++ big_bytes 4 k
body_bytes (bodies.LostHere n round g end) = big_bytes 8 n ++ (big_bytes 4 round ++ (big_bytes 4 g ++ big_bytes 8 end))
body_bytes (bodies.CleanHere n y) = big_bytes 8 n ++ summary_bytes y
body_bytes (bodies.TrimmedHere n t) = big_bytes 8 n ++ big_bytes 8 t
body_bytes (bodies.DigestAsk n) = big_bytes 8 n
body_bytes (bodies.DigestPage n upto t lng es) = big_bytes 8 n ++ (big_bytes 8 upto ++ (big_bytes 8 t ++ (big_bytes 4 lng ++ page_bytes es)))
body_bytes (bodies.Clean e y) = big_bytes 4 e ++ summary_bytes y
body_bytes (bodies.Release n) = big_bytes 8 n
body_bytes (bodies.Trim t) = big_bytes 8 t
body_bytes (bodies.ReadAsk round n) = big_bytes 4 round ++ big_bytes 8 n
body_bytes (bodies.ReadPage round n upto c es) = big_bytes 4 round ++ (big_bytes 8 n ++ (big_bytes 8 upto ++ (big_bytes 1 (flag c) ++ page_bytes es)))
body_bytes (bodies.ReadEnded round n end loss) = big_bytes 4 round ++ (big_bytes 8 n ++ (big_bytes 8 end ++ big_bytes 1 (flag loss)))
body_bytes (bodies.ReadTrim round n t) = big_bytes 4 round ++ (big_bytes 8 n ++ big_bytes 8 t)
body_bytes (bodies.ReadWait round n r) = big_bytes 4 round ++ (big_bytes 8 n ++ big_bytes 8 r)
body_bytes (bodies.ReadOne round n set excluded) = big_bytes 4 round ++ (big_bytes 8 n ++ (big_bytes 2 (set_bits set) ++ big_bytes 2 (set_bits excluded)))

-- what stands behind the length
unfoldable pub msg_bytes : Msg → List ℕ
msg_bytes m = big_bytes 1 (kind_of m.body) ++ (who_bytes m.from ++ (who_bytes m.to ++ (big_bytes 4 m.log ++ body_bytes m.body)))

unfoldable pub frame_of : Msg → List ℕ
frame_of m = big_bytes 4 (length (msg_bytes m)) ++ msg_bytes m

-- what the counts and lengths of a frame can say
abbrev pub CanCarry : Body → Type 0
CanCarry (bodies.Store n lng x) = IsShort x
CanCarry (bodies.Stored n) = Unit {0}
CanCarry (bodies.SealedHere n k) = Unit {0}
CanCarry (bodies.LostHere n round g end) = Unit {0}
CanCarry (bodies.CleanHere n y) = Unit {0}
CanCarry (bodies.TrimmedHere n t) = Unit {0}
CanCarry (bodies.DigestAsk n) = Unit {0}
CanCarry (bodies.DigestPage n upto t lng es) = (length es ≤ 64) × AreEntries es
CanCarry (bodies.Clean e y) = Unit {0}
CanCarry (bodies.Release n) = Unit {0}
CanCarry (bodies.Trim t) = Unit {0}
CanCarry (bodies.ReadAsk round n) = Unit {0}
CanCarry (bodies.ReadPage round n upto c es) = (length es ≤ 64) × AreEntries es
CanCarry (bodies.ReadEnded round n end loss) = Unit {0}
CanCarry (bodies.ReadTrim round n t) = Unit {0}
CanCarry (bodies.ReadWait round n r) = Unit {0}
CanCarry (bodies.ReadOne round n set excluded) = Unit {0}
