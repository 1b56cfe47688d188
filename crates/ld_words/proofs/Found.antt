-- What clap finds, as the definition has it.
use Rattle.std.proofs.Common.{◌≡◌, ◌≢◌, inl, inr, List, [], ◌∷◌, None, refl, ap, sym, ◌∙◌, subst, true}
use Rattle.std.specs.Prelude.{Option, Result, MatchResult}
use Rattle.clap.specs.Kinds.{Kinds, HasKind}
use Rattle.clap.specs.Walk.{Row, Text}
use Rattle.clap.specs.Simple.{App, HasMatchesOf, subcommand_of, subcommand_rows_of}
use Rattle.clap.specs.Faults.{fault_of, is_simple_and_free}
use Rattle.clap.specs.Values.{kind_of}
use Rattle.clap.specs.declared.error.Error.{Error}
use Rattle.clap.specs.declared.error.kind.ErrorKind.TheVariants.{OutOfMemory}
use Rattle.clap.specs.declared.parser.matches.ArgMatches.{ArgMatches}
use Rattle.ld_words.specs.declared.command.Command.{Command}
use Rattle.ld_words.specs.declared.refusal.Refusal.{Refusal}
use Rattle.ld_words.specs.Grammar.{ld_app, if_fine, found}
use Rattle.ld_words.specs.Meaning.{IsNamed, IsFound, Asks, IsNoCommand}
use Rattle.ld_words.specs.Refuses.{Refuses}

none_of : {X : Type 0} (ks : Kinds) (o : Option X) → ks ≢ [] → if_fine ks o ≡ None
none_of [] o h = absurd (h refl)
none_of (k ∷ ks) o h = refl

found_none : (words : List Text) → fault_of ld_app words ≢ [] → found words ≡ None
unfolding found
found_none words h = none_of (fault_of ld_app words) (subcommand_of ld_app words) h

found_is : (words : List Text) → fault_of ld_app words ≡ [] → found words ≡ subcommand_of ld_app words
unfolding found
found_is words e = ap (λ ks. if_fine ks (subcommand_of ld_app words)) e

none_asked : (words : List Text) → fault_of ld_app words ≢ [] → IsNoCommand words
none_asked words h command asks =
    let none = found_none words h in
    let some = asks.is in
    absurd cc

-- the arguments ask for what was found in them
pub asked_as : (words : List Text) (o : Option (Text × List Row)) (r : Result Command Refusal) → found words ≡ o
    → MatchResult r (IsFound o) (Refuses ((c : Command) → IsFound o c → ⊥))
    → MatchResult r (Asks words) (Refuses (IsNoCommand words))
asked_as words o r e h =
    subst (λ o. MatchResult r (IsFound o) (Refuses ((c : Command) → IsFound o c → ⊥))) (sym e) h

-- what was found for a name, where the command has this one
pub of_name : (name other : Text) (rows : List Row) (r : Result Command Refusal) → name ≡ other
    → MatchResult r (IsNamed other rows) (Refuses ((c : Command) → IsNamed other rows c → ⊥))
    → MatchResult r (IsNamed name rows) (Refuses ((c : Command) → IsNamed name rows c → ⊥))
of_name name other rows r e h =
    subst (λ n. MatchResult r (IsNamed n rows) (Refuses ((c : Command) → IsNamed n rows c → ⊥))) (sym e) h

-- what a parse says of the words, where its command is the one that is defined
pub found_by : (app : App) (words : List Text) (m : ArgMatches) → app ≡ ld_app → HasMatchesOf app words m
    → (is_simple_and_free app ≡ true → fault_of app words ≡ []) → found words ≡ subcommand_rows_of m
found_by app words m e h k =
    let matches = subst (λ a. HasMatchesOf a words m) e h in
    let kinds = subst (λ a. is_simple_and_free a ≡ true → fault_of a words ≡ []) e k in
    found_is words (kinds refl) ∙ sym (matches refl).1

pub refused_by : (app : App) (words : List Text) (error : Error) → app ≡ ld_app
    → (is_simple_and_free app ≡ true → HasKind (fault_of app words) error) → kind_of error ≢ OutOfMemory → IsNoCommand words
refused_by app words error e k other =
    let kinds = subst (λ a. is_simple_and_free a ≡ true → HasKind (fault_of a words) error) e k in
    none_asked words (λ none. elim (subst (λ ks. HasKind ks error) none (kinds refl)) [ inl memory ↦ other memory | inr among ↦ among ])
