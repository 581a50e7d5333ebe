use Rattle.std.proofs.Common.{[], ℕ, List, sym, subst, ◌∙◌, length, map}
use Rattle.std.proofs.lemmas.Result.{err_from_is_err_and}
use Rattle.std.specs.List.{AllPass, between}
use Rattle.pk_values.specs.Fits.{fits}
use Rattle.pk_values.specs.declared.cells.Value.{Value}
use Rattle.column_page.specs.CellBytes.{cell_bytes}
use Rattle.column_page.specs.Page.{distinct_after, places}
use Rattle.column_page.specs.Reading.{CellsThen}
use Rattle.column_page.proofs.PageFacts.{is_dictionary, placed_here, words_read}
use Rattle.column_page.proofs.ReadFacts.{same_cells}
use Rattle.column_page.proofs.Pieces.{to_end}
use Rattle.column_page.proofs.decode.read_dictionary.Goals as goal

pub returns-clause-only : goal.returns-clause-only
returns-clause-only c cells are e =
    let column = c.args.column.now in
    let bytes = c.args.bytes.now in
    let some = c.in-Some.ensures.some in
    let C = map (cell_bytes column) cells in
    let W = distinct_after [] C in
    let body = to_end bytes 2 in
    let piece = between 2 (length bytes) bytes in
    let read = words_read column c.in-Some.number c.args.count bytes cells are (is_dictionary C bytes e) some.0 some.2 in
    let words = c.in_ok-words.ensures.only W (places W C) (subst (λ (t : List ℕ). CellsThen column c.in-Some.number t W (places W C)) (sym body) read.words) in
    let rest = to_end piece c.in_ok-words.words.len in
    let placed = placed_here (cell_bytes column) c.in_ok-words.words.values.items c.deref.result.now c.args.count W C _ c.deref.ensures.value words.0 (rest ∙ words.1) read.placed in
    let fit : AllPass (fits column) c.deref.result.now = subst (λ (vs : List Value). AllPass (fits column) vs) (sym c.deref.ensures.value) c.in_ok-words.ensures.fits in
    same_cells column c.requires c.in_ok-values.values.items cells (c.in_ok-values.ensures.pass (fits column) fit) are.fit (c.in_ok-values.ensures.only (cell_bytes column) C placed)

pub returns-in_err-words-clause-none : goal.returns-in_err-words-clause-none
returns-in_err-words-clause-none c =
    let p = err_from_is_err_and c.from_residual.result c.from_residual.ensures.1 in
    rw (p.1, p.2) (λ is cells are e.
    let column = c.args.column.now in
    let bytes = c.args.bytes.now in
    let some = c.in-Some.ensures.some in
    let C = map (cell_bytes column) cells in
    let W = distinct_after [] C in
    let body = to_end bytes 2 in
    let read = words_read column c.in-Some.number c.args.count bytes cells are (is_dictionary C bytes e) some.0 some.2 in
    c.in_err-words.ensures.none is W (places W C) (subst (λ (t : List ℕ). CellsThen column c.in-Some.number t W (places W C)) (sym body) read.words))

pub returns-in_err-values-clause-none : goal.returns-in_err-values-clause-none
returns-in_err-values-clause-none c =
    let p = err_from_is_err_and c.from_residual-in_err-values.result c.from_residual-in_err-values.ensures.1 in
    rw (p.1, p.2) (λ is cells are e.
    let column = c.args.column.now in
    let bytes = c.args.bytes.now in
    let some = c.in-Some.ensures.some in
    let C = map (cell_bytes column) cells in
    let W = distinct_after [] C in
    let body = to_end bytes 2 in
    let piece = between 2 (length bytes) bytes in
    let read = words_read column c.in-Some.number c.args.count bytes cells are (is_dictionary C bytes e) some.0 some.2 in
    let words = c.in_ok-words.ensures.only W (places W C) (subst (λ (t : List ℕ). CellsThen column c.in-Some.number t W (places W C)) (sym body) read.words) in
    let rest = to_end piece c.in_ok-words.words.len in
    let placed = placed_here (cell_bytes column) c.in_ok-words.words.values.items c.deref.result.now c.args.count W C _ c.deref.ensures.value words.0 (rest ∙ words.1) read.placed in
    c.in_err-values.ensures.none is (cell_bytes column) C placed)

pub returns-clause-fits : goal.returns-clause-fits
returns-clause-fits c =
    c.in_ok-values.ensures.pass (fits c.args.column.now) (subst (λ (vs : List Value). AllPass (fits c.args.column.now) vs) (sym c.deref.ensures.value) c.in_ok-words.ensures.fits)
