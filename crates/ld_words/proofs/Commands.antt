-- Commands of clap, built argument by argument.
use Rattle.std.specs.Prelude.{Result, Ok, IfOk}
use Rattle.std.proofs.lemmas.Result.{IfOk-weaker}
use Rattle.std.proofs.Common.{subst, ◌≡◌, ◌∙◌, ◌||◌, ◌++◌, [], ◌∷◌, false, ap, ap₂, refl, sym, ℕ, List, ◌+◌, ◌<◌, ◌≤◌, length, take, get_or, map, append_assoc}
use Rattle.std.proofs.lemmas.List.{take_more, take_all}
use Rattle.clap.specs.Simple.{App, Shape, app_of, with_rule, with_subcommand}
use Rattle.clap.specs.Walk.{Rule, rule_of}
use Rattle.clap.specs.Built.{AddsArg, AddsSubcommand}
use Rattle.clap.specs.declared.builder.arg.Arg.{Arg}
use Rattle.clap.specs.declared.builder.command.Command.{Command}
use Rattle.ld_words.specs.declared.grammar.Part.{Part}
use Rattle.ld_words.specs.Grammar.{IsCommand, part_rule}

-- a command with an argument more, which isn't for other commands
pub with_argument : (old : Command) (a : Arg) (new : Command) (shape : Shape) (rule : Rule) → AddsArg old a new → IsCommand shape old → rule_of a ≡ rule
    → a.global ≡ false → IsCommand (record shape { rules = shape.rules ++ rule ∷ [] }) new
with_argument old a new shape rule adds is ruled own =
    record { app = adds.shape own ∙ ap₂ with_rule is.app ruled; own = adds.globals ∙ ap₂ (λ a b. a || b) is.own own }

-- the same, where the command could be made
pub with_one : {E : Type 0} (old : Result Command E) (a : Arg) (c : Command) (new : Result Command E) (shape : Shape) (rule : Rule) → old ≡ Ok c
    → IfOk new (AddsArg c a) → IfOk old (IsCommand shape) → rule_of a ≡ rule → a.global ≡ false → IfOk new (IsCommand (record shape { rules = shape.rules ++ rule ∷ [] }))
with_one old a c new shape rule is adds has ruled own =
    IfOk-weaker new _ _ (λ r h. with_argument c a r shape rule h (subst (λ x. IfOk x (IsCommand shape)) is has) ruled own) adds

-- the commands with a command more
pub with_command : (old sub new : Command) (app : App) (shape : Shape) → AddsSubcommand old sub new → app_of old ≡ app → IsCommand shape sub
    → app_of new ≡ with_subcommand app shape
with_command old sub new app shape adds is command = adds.shape command.own ∙ ap₂ with_subcommand is (ap (λ (a : App). a.top) command.app)

-- the same, where both could be made
pub added : {E : Type 0} (ld more : Result Command E) (l m : Command) (new : Result Command E) (app : App) (shape : Shape) → ld ≡ Ok l → more ≡ Ok m
    → IfOk new (AddsSubcommand l m) → IfOk ld (λ l. app_of l ≡ app) → IfOk more (IsCommand shape) → IfOk new (λ l. app_of l ≡ with_subcommand app shape)
added ld more l m new app shape is_l is_m adds has are =
    IfOk-weaker new _ _ (λ r h. with_command l m r app shape h (subst (λ x. IfOk x (λ l. app_of l ≡ app)) is_l has) (subst (λ x. IfOk x (IsCommand shape)) is_m are)) adds

-- ---- arguments in a row

rules_push : (parts : List Part) (x : Part) → map part_rule (parts ++ x ∷ []) ≡ map part_rule parts ++ part_rule x ∷ []
rules_push [] x = refl
rules_push (p ∷ ps) x = ap (λ rules. part_rule p ∷ rules) (rules_push ps x)

-- a command with the arguments up to one, and with that one
pub one_part_more : {E : Type 0} (r : Result Command E) (shape : Shape) (parts : List Part) (i : ℕ) (d : Part) → i < length parts
    → IfOk r (IsCommand (record shape { rules = (shape.rules ++ map part_rule (take i parts)) ++ part_rule (get_or parts i d) ∷ [] }))
    → IfOk r (IsCommand (record shape { rules = shape.rules ++ map part_rule (take (i + 1) parts) }))
one_part_more r shape parts i d l has =
    let more = ap (map part_rule) (take_more parts i d l) ∙ rules_push (take i parts) (get_or parts i d) in
    subst (λ rules. IfOk r (IsCommand (record shape { rules = rules }))) (append_assoc shape.rules (map part_rule (take i parts)) (part_rule (get_or parts i d) ∷ []) ∙ ap (λ rules. shape.rules ++ rules) (sym more)) has

-- a command with all of them
pub all_parts : {E : Type 0} (r : Result Command E) (shape : Shape) (parts : List Part) (i : ℕ) → length parts ≤ i
    → IfOk r (IsCommand (record shape { rules = shape.rules ++ map part_rule (take i parts) })) → IfOk r (IsCommand (record shape { rules = shape.rules ++ map part_rule parts }))
all_parts r shape parts i l has = subst (λ ps. IfOk r (IsCommand (record shape { rules = shape.rules ++ map part_rule ps }))) (take_all i parts l) has
