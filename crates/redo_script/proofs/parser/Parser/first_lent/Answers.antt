use Rattle.std.proofs.Common.{◌≡◌, arith, rules}
use Rattle.std.specs.Prelude.{codes}
use Rattle.std.proofs.lemmas.Slice.Eq.{text_from_reads}
use Rattle.redo_script.proofs.parser.Parser.first_lent.Goals as goal

pub returns-in-if : goal.returns-in-if
returns-in-if c =
    let text : c.args.bytes.now ≡ codes "if" = text_from_reads c.args.bytes.now (codes "if") (omega (arith, c.in-if.len_at_least, c.in-if.len_below)) (search rules) in
    rw text c.if_word.ensures

pub returns-in-fi : goal.returns-in-fi
returns-in-fi c =
    let text : c.args.bytes.now ≡ codes "fi" = text_from_reads c.args.bytes.now (codes "fi") (omega (arith, c.in-fi.len_at_least, c.in-fi.len_below)) (search rules) in
    rw text c.fi_word.ensures

pub returns-in-cat : goal.returns-in-cat
returns-in-cat c =
    let text : c.args.bytes.now ≡ codes "cat" = text_from_reads c.args.bytes.now (codes "cat") (omega (arith, c.in-cat.len_at_least, c.in-cat.len_below)) (search rules) in
    rw text c.begin_command.ensures

pub returns-in-echo : goal.returns-in-echo
returns-in-echo c =
    let text : c.args.bytes.now ≡ codes "echo" = text_from_reads c.args.bytes.now (codes "echo") (omega (arith, c.in-echo.len_at_least, c.in-echo.len_below)) (search rules) in
    rw text c.begin_command-in-echo.ensures

pub returns-in-exit : goal.returns-in-exit
returns-in-exit c =
    let text : c.args.bytes.now ≡ codes "exit" = text_from_reads c.args.bytes.now (codes "exit") (omega (arith, c.in-exit.len_at_least, c.in-exit.len_below)) (search rules) in
    rw text c.begin_command-in-exit.ensures

pub returns-in-else : goal.returns-in-else
returns-in-else c =
    let text : c.args.bytes.now ≡ codes "else" = text_from_reads c.args.bytes.now (codes "else") (omega (arith, c.in-else.len_at_least, c.in-else.len_below)) (search rules) in
    rw text c.else_word.ensures

pub returns-in-test : goal.returns-in-test
returns-in-test c =
    let text : c.args.bytes.now ≡ codes "test" = text_from_reads c.args.bytes.now (codes "test") (omega (arith, c.in-test.len_at_least, c.in-test.len_below)) (search rules) in
    rw text c.begin_command-in-test.ensures

pub returns-in-printf : goal.returns-in-printf
returns-in-printf c =
    let text : c.args.bytes.now ≡ codes "printf" = text_from_reads c.args.bytes.now (codes "printf") (omega (arith, c.in-printf.len_at_least, c.in-printf.len_below)) (search rules) in
    rw text c.begin_command-in-printf.ensures

pub returns-in-114 : goal.returns-in-114
returns-in-114 c =
    let text : c.args.bytes.now ≡ codes "redo-ifchange" = text_from_reads c.args.bytes.now (codes "redo-ifchange") (omega (arith, c.in-114.len_at_least, c.in-114.len_below)) (search rules) in
    rw text c.begin_command-in-114.ensures
