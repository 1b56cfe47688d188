use Rattle.std.proofs.Common.{ap, codes, ◌∙◌, true}
use Rattle.clap.specs.Simple.{app_of_fields, new_shape, on_top}
use Rattle.ld_words.specs.Grammar.{IsCommand}
use Rattle.ld_words.proofs.grammar.ld_command.Goals as goal

pub returns : goal.returns
returns c =
    let replay_is : IsCommand (new_shape (codes "replay")) c.new-2.result = record { app = c.new-2.ensures.app; own = c.new-2.ensures.local } in
    let t1 = ap app_of_fields c.no_binary_name.ensures ∙ ap (on_top (λ s. record s { no_binary_name = true })) c.new.ensures.app in
    let t2 = ap app_of_fields c.disable_help_flag.ensures ∙ ap (on_top (λ s. record s { disable_help_flag = true })) t1 in
    let t3 = ap app_of_fields c.disable_help_subcommand.ensures ∙ ap (on_top (λ s. record s { disable_help_subcommand = true })) t2 in
    let t4 = ap app_of_fields c.subcommand_required-ld.ensures ∙ ap (on_top (λ s. record s { subcommand_required = true })) t3 in
    let s1 = c.add-with_replay.ensures _ _ t4 replay_is in
    let s2 = c.add-with_exercise.ensures _ _ s1 c.exercise_command.ensures in
    let s3 = c.add-with_node.ensures _ _ s2 c.node_command.ensures in
    let s4 = c.add-with_append.ensures _ _ s3 c.append_command.ensures in
    let s5 = c.add-with_tail.ensures _ _ s4 c.tail_command.ensures in
    let s6 = c.add-with_register.ensures _ _ s5 c.register_command.ensures in
    let s7 = c.add-with_status.ensures _ _ s6 c.status_command.ensures in
    let s8 = c.add-with_mend.ensures _ _ s7 c.mend_command.ensures in
    let s9 = c.add-with_replace.ensures _ _ s8 c.replace_command.ensures in
    let s10 = c.add-with_show.ensures _ _ s9 c.show_command.ensures in
    c.add.ensures _ _ s10 c.trim_command.ensures
