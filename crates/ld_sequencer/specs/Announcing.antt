-- The released number told once more, among the messages of a retry.
use Rattle.std.specs.Prelude.{ℕ, suc, List, [], ◌∷◌, ◌++◌, take, drop, Bool, true, false, is_some, if◌then◌else◌}
use Rattle.ld_ids.specs.Choice.{nodes_of}
use Rattle.ld_msg.specs.declared.msg.Msg.{Msg}
use Rattle.ld_msg.specs.declared.msg.Body.{Body}
use Rattle.ld_msg.specs.declared.msg.Body.TheVariants as bodies
use Rattle.ld_msg.specs.Sequencer.{Sequencer, released_of, to_each}
use Rattle.ld_sequencer.specs.Whole.{Whole, sent_as}

-- a message tells of a close or of the released number
abbrev pub tells : Body → Bool
tells (bodies.Clean epoch y) = true
tells (bodies.Release n) = true
tells _ = false

-- how many messages do so, from the first one on
abbrev pub told_first : List Msg → ℕ
told_first [] = 0
told_first (m ∷ ms) = if tells m.body then suc (told_first ms) else 0

-- the released number, to the nodes of the sequencer's epoch; nothing of a preempted one
abbrev pub announcements : Sequencer → List (ℕ × Body)
announcements q = if is_some q.preempted then [] else to_each (bodies.Release (released_of q)) (nodes_of q.spec)

-- the messages of a retry with the released number behind the first ones that tell of a close or of it
abbrev pub announced : Whole → List Msg → List Msg
announced w ms = take (told_first ms) ms ++ (sent_as w (announcements w.sequencer) ++ drop (told_first ms) ms)
