-- Which lines a step may write, by groups.
use Rattle.std.proofs.Common.{◌≡◌, ◌∙◌, ◌⊎◌, ℕ, ◌+◌, inl, inr, refl, ap, Bool, true, false, cond, List, [], ◌∷◌, ◌++◌}
use Rattle.ld_transcript.specs.declared.line.Line.{Line}
use Rattle.ld_transcript.specs.declared.line.Line.TheVariants as lines
use Rattle.ld_ids.specs.declared.set.Spec.{Spec}
use Rattle.ld_config.specs.declared.config.Config.{Config}
use Rattle.ld_msg.specs.Register.{Register}
use Rattle.ld_msg.specs.Sequencer.{Sequencer, Acts, rose}
use Rattle.ld_msg.specs.Reading.{Item, TrimTo, RecordHere, HoleHere, BridgeTo, LossHere, LossTo}
use Rattle.ld_machine.specs.Disk.{Kept, Written, DiskFailed, Crashed, JournalFull}
use Rattle.ld_machine.specs.State.{Done, finish}
use Rattle.ld_machine.specs.Step as Step
use Rattle.ld_machine.specs.World.{In}
use Rattle.ld_safety.proofs.Lists.{In-append}
use Rattle.ld_safety.proofs.Events.{is_quiet}
use Rattle.ld_safety.proofs.Steps.{is_plain, In_finish}
use Rattle.ld_msg.specs.declared.style.Style.{Style}
use Rattle.ld_msg.specs.declared.style.Style.TheVariants as styles
use Rattle.ld_batch.specs.Batch.{Unpacked, Messages, Bad, unpacked}

-- of nodes; of numbering; of acknowledgements and refusals; of trims; of what is set for later activations; of what readers get; of messages
pub data Group : Type 0 where
  OfNodes OfNumbers OfActs OfTrims OfSets OfItems OfMessages : Group

abbrev pub group : Line → Group
group (lines.NodeFormatted n g) = OfNodes
group (lines.NodeLost n l e) = OfNodes
group (lines.NodeUp n) = OfNodes
group (lines.NodeDown n) = OfNodes
group (lines.NodeWiped n) = OfNodes
group (lines.NodeFailed n) = OfNodes
group (lines.NodeFull n) = OfNodes
group (lines.NodeRebuilt n l) = OfNodes
group (lines.NodeReplaced n l other k) = OfNodes
group (lines.NodeRefusedSwapLimit n) = OfNodes
group (lines.NodeRefusedRegister n) = OfNodes
group (lines.NodeRefusedGenLimit n) = OfNodes
group (lines.Active s e) = OfNumbers
group (lines.Appended s n) = OfNumbers
group (lines.Trimmed s t) = OfTrims
group (lines.Set l r x set) = OfSets
group (lines.Record r n p) = OfItems
group (lines.BatchMessage r n i p) = OfItems
group (lines.Gap r kind low high) = OfItems
group (lines.Message i from to kind n) = OfMessages
group lines.Nothing = OfMessages
group _ = OfActs

abbrev pub AllOf : Group → List Line → Type 0
AllOf g ls = (x : Line) → In x ls → group x ≡ g

pub none_of : (g : Group) → AllOf g []
none_of g x i = absurd i

pub one_of : (x : Line) → AllOf (group x) (x ∷ [])
one_of x y (inl e) = ap group e
one_of x y (inr i) = absurd i

pub both_of : (g : Group) (ls ms : List Line) → AllOf g ls → AllOf g ms → AllOf g (ls ++ ms)
both_of g ls ms a b x h = elim (In-append x ls ms h) [ inl i ↦ a x i | inr i ↦ b x i ]

pub kept_of : (n : ℕ) (ls : List Line) (k : Kept) → AllOf OfNodes ls → AllOf OfNodes (Step.kept_lines n ls k)
kept_of n ls Written h = h
kept_of n ls DiskFailed h = one_of (lines.NodeFailed n)
kept_of n ls Crashed h = one_of (lines.NodeDown n)
kept_of n ls JournalFull h = one_of (lines.NodeFull n)

lost_line_of : (n epoch : ℕ) (p : Spec) (b : Bool) → AllOf OfNodes (cond b (lines.NodeLost n p.log epoch ∷ []) [])
lost_line_of n epoch p true = one_of (lines.NodeLost n p.log epoch)
lost_line_of n epoch p false = none_of OfNodes

lost_lines_of : (n : ℕ) (r : Register) (ps : List Spec) → AllOf OfNodes (Step.lost_lines n r ps)
lost_lines_of n r [] = none_of OfNodes
lost_lines_of n r (p ∷ ps) = both_of OfNodes _ _ (lost_line_of n _ p _) (lost_lines_of n r ps)

pub format_of : (c : Config) (n : ℕ) (r : Register) → AllOf OfNodes (Step.format_lines c n r)
format_of c n r x (inl e) = ap group e
format_of c n r x (inr i) = lost_lines_of n r c.logs x i

numbered_of : (f : ℕ → Line) (ns : List ℕ) → ((n : ℕ) → group (f n) ≡ OfActs) → AllOf OfActs (Step.numbered_lines f ns)
numbered_of f [] h x i = absurd i
numbered_of f (n ∷ ns) h x (inl e) = ap group e ∙ h n
numbered_of f (n ∷ ns) h x (inr i) = numbered_of f ns h x i

when_of : (b : Bool) (x : Line) → group x ≡ OfActs → AllOf OfActs (Step.when b x)
when_of true x h y (inl e) = ap group e ∙ h
when_of true x h y (inr i) = absurd i
when_of false x h y i = absurd i

pub acted_of : (name : List ℕ) (old : Sequencer) (a : Acts) → AllOf OfActs (Step.acted_lines name old a)
acted_of name old a = both_of OfActs _ _ (numbered_of _ a.preempts (λ n. refl)) (both_of OfActs _ _ (when_of a.failed _ refl)
    (both_of OfActs _ _ (numbered_of _ a.acked (λ n. refl)) (both_of OfActs _ _ (numbered_of _ a.closed (λ n. refl)) (when_of (rose old a.sequencer) _ refl))))

item_of : (r : List ℕ) (s until : ℕ) (i : Item) → group (Step.item_line r s until i) ≡ OfItems
item_of r s until (TrimTo last) = refl
item_of r s until (RecordHere p) = refl
item_of r s until HoleHere = refl
item_of r s until (BridgeTo last) = refl
item_of r s until LossHere = refl
item_of r s until (LossTo last) = refl

messages_of : (r : List ℕ) (s index : ℕ) (ms : List (List ℕ)) → AllOf OfItems (Step.message_lines_from r s index ms)
messages_of r s index [] x i = absurd i
messages_of r s index (m ∷ ms) x (inl e) = ap group e
messages_of r s index (m ∷ ms) x (inr i) = messages_of r s (index + 1) ms x i

payload_of : (r : List ℕ) (s : ℕ) (p : List ℕ) (u : Unpacked) → AllOf OfItems (Step.payload_lines r s p u)
payload_of r s p (Messages ms) = messages_of r s 0 ms
payload_of r s p (Bad place) = one_of (lines.Record r s p)

one_item : (r : List ℕ) (s until : ℕ) (i : Item) → AllOf OfItems (Step.item_line r s until i ∷ [])
one_item r s until i x (inl e) = ap group e ∙ item_of r s until i
one_item r s until i x (inr h) = absurd h

lines_of_one : (style : Style) (r : List ℕ) (s until : ℕ) (i : Item) → AllOf OfItems (Step.lines_of_item style r s until i)
lines_of_one styles.EachCopy r s until i = one_item r s until i
lines_of_one styles.OneCopy r s until i = one_item r s until i
lines_of_one styles.OfMessages r s until (RecordHere p) = payload_of r s p (unpacked p)
lines_of_one styles.OfMessages r s until (TrimTo last) = one_item r s until (TrimTo last)
lines_of_one styles.OfMessages r s until HoleHere = one_item r s until HoleHere
lines_of_one styles.OfMessages r s until (BridgeTo last) = one_item r s until (BridgeTo last)
lines_of_one styles.OfMessages r s until LossHere = one_item r s until LossHere
lines_of_one styles.OfMessages r s until (LossTo last) = one_item r s until (LossTo last)

pub items_of : (style : Style) (r : List ℕ) (until : ℕ) (is : List (ℕ × Item)) → AllOf OfItems (Step.item_lines style r until is)
items_of style r until [] = none_of OfItems
items_of style r until (j ∷ is) = both_of OfItems _ _ (lines_of_one style r j.0 until j.1) (items_of style r until is)

-- a quiet line is of a node or of an act
pub quiet_of : (x : Line) → is_quiet x ≡ true → (group x ≡ OfNodes) ⊎ (group x ≡ OfActs)
quiet_of (lines.NodeUp n) h = inl refl
quiet_of (lines.NodeDown n) h = inl refl
quiet_of (lines.NodeFailed n) h = inl refl
quiet_of (lines.NodeFull n) h = inl refl
quiet_of (lines.NodeReplaced n l other k) h = inl refl
quiet_of (lines.NodeRefusedSwapLimit n) h = inl refl
quiet_of (lines.NodeRefusedRegister n) h = inl refl
quiet_of (lines.NodeRefusedGenLimit n) h = inl refl
quiet_of (lines.RefusedLong s n) h = inr refl
quiet_of (lines.RefusedPreempted s n) h = inr refl
quiet_of (lines.RefusedEpochFull s) h = inr refl
quiet_of (lines.RefusedWindowFull s) h = inr refl
quiet_of (lines.RefusedPast s n) h = inr refl
quiet_of (lines.RefusedRegister s) h = inr refl
quiet_of (lines.RefusedEpochLimit s) h = inr refl
quiet_of (lines.RefusedRange s) h = inr refl
quiet_of (lines.RefusedFull s) h = inr refl
quiet_of (lines.Clean s n) h = inr refl
quiet_of (lines.Message i from to kind n) h = absurd cc
quiet_of _ h = absurd cc

plain_of : (x : Line) → is_plain x ≡ true → group x ≡ OfMessages
plain_of (lines.Message i from to kind n) h = refl
plain_of lines.Nothing h = refl
plain_of _ h = absurd cc

-- a line that isn't of messages is one of the event's
pub line_of : (d : Done) (x : Line) → (group x ≡ OfMessages → ⊥) → In x (finish d).lines → In x d.lines
line_of d x n h = elim (In_finish d x h) [ inl i ↦ i | inr p ↦ absurd (n (plain_of x p)) ]
