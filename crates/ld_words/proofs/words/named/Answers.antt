use Rattle.std.proofs.Common.{rules, codes, ◌≡◌}
use Rattle.clap.specs.Words.{rows_of, found_of}
use Rattle.ld_words.proofs.Found.{of_name}
use Rattle.ld_words.proofs.words.named.Goals as goal

pub returns-then-eq-2-clause-means : goal.returns-then-eq-2-clause-means
returns-then-eq-2-clause-means c =
    let is : c.args.name.now ≡ codes "exercise" = search rules in
    of_name _ (codes "exercise") (rows_of (found_of c.args.matches.now)) _ is c.exercise_command.ensures.means

pub returns-then-eq-2-clause-bounds : goal.returns-then-eq-2-clause-bounds
returns-then-eq-2-clause-bounds c = c.exercise_command.ensures.bounds

pub returns-then-eq-3-clause-means : goal.returns-then-eq-3-clause-means
returns-then-eq-3-clause-means c =
    let is : c.args.name.now ≡ codes "node" = search rules in
    of_name _ (codes "node") (rows_of (found_of c.args.matches.now)) _ is c.node_command.ensures.means

pub returns-then-eq-3-clause-bounds : goal.returns-then-eq-3-clause-bounds
returns-then-eq-3-clause-bounds c = c.node_command.ensures.bounds

pub returns-then-eq-4-clause-means : goal.returns-then-eq-4-clause-means
returns-then-eq-4-clause-means c =
    let is : c.args.name.now ≡ codes "append" = search rules in
    of_name _ (codes "append") (rows_of (found_of c.args.matches.now)) _ is c.append_command.ensures.means

pub returns-then-eq-4-clause-bounds : goal.returns-then-eq-4-clause-bounds
returns-then-eq-4-clause-bounds c = c.append_command.ensures.bounds

pub returns-then-eq-5-clause-means : goal.returns-then-eq-5-clause-means
returns-then-eq-5-clause-means c =
    let is : c.args.name.now ≡ codes "tail" = search rules in
    of_name _ (codes "tail") (rows_of (found_of c.args.matches.now)) _ is c.tail_command.ensures.means

pub returns-then-eq-5-clause-bounds : goal.returns-then-eq-5-clause-bounds
returns-then-eq-5-clause-bounds c = c.tail_command.ensures.bounds

pub returns-then-eq-6-clause-means : goal.returns-then-eq-6-clause-means
returns-then-eq-6-clause-means c =
    let is : c.args.name.now ≡ codes "register" = search rules in
    of_name _ (codes "register") (rows_of (found_of c.args.matches.now)) _ is c.register_command.ensures.means

pub returns-then-eq-6-clause-bounds : goal.returns-then-eq-6-clause-bounds
returns-then-eq-6-clause-bounds c = c.register_command.ensures.bounds

pub returns-then-eq-7-clause-means : goal.returns-then-eq-7-clause-means
returns-then-eq-7-clause-means c =
    let is : c.args.name.now ≡ codes "status" = search rules in
    of_name _ (codes "status") (rows_of (found_of c.args.matches.now)) _ is c.status_command.ensures.means

pub returns-then-eq-7-clause-bounds : goal.returns-then-eq-7-clause-bounds
returns-then-eq-7-clause-bounds c = c.status_command.ensures.bounds

pub returns-then-eq-8-clause-means : goal.returns-then-eq-8-clause-means
returns-then-eq-8-clause-means c =
    let is : c.args.name.now ≡ codes "mend" = search rules in
    of_name _ (codes "mend") (rows_of (found_of c.args.matches.now)) _ is c.mend_command.ensures.means

pub returns-then-eq-8-clause-bounds : goal.returns-then-eq-8-clause-bounds
returns-then-eq-8-clause-bounds c = c.mend_command.ensures.bounds

pub returns-then-eq-9-clause-means : goal.returns-then-eq-9-clause-means
returns-then-eq-9-clause-means c =
    let is : c.args.name.now ≡ codes "replace" = search rules in
    of_name _ (codes "replace") (rows_of (found_of c.args.matches.now)) _ is c.replace_command.ensures.means

pub returns-then-eq-9-clause-bounds : goal.returns-then-eq-9-clause-bounds
returns-then-eq-9-clause-bounds c = c.replace_command.ensures.bounds

pub returns-then-eq-10-clause-means : goal.returns-then-eq-10-clause-means
returns-then-eq-10-clause-means c =
    let is : c.args.name.now ≡ codes "show" = search rules in
    of_name _ (codes "show") (rows_of (found_of c.args.matches.now)) _ is c.show_command.ensures.means

pub returns-then-eq-10-clause-bounds : goal.returns-then-eq-10-clause-bounds
returns-then-eq-10-clause-bounds c = c.show_command.ensures.bounds

pub returns-then-eq-11-clause-means : goal.returns-then-eq-11-clause-means
returns-then-eq-11-clause-means c =
    let is : c.args.name.now ≡ codes "trim" = search rules in
    of_name _ (codes "trim") (rows_of (found_of c.args.matches.now)) _ is c.trim_command.ensures.means

pub returns-then-eq-11-clause-bounds : goal.returns-then-eq-11-clause-bounds
returns-then-eq-11-clause-bounds c = c.trim_command.ensures.bounds
