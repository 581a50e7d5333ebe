use Rattle.std.proofs.Common.{ap, ap₂, ◌∙◌, ◌+◌, inr, arith, length, List, ℕ}
use Rattle.csv.specs.Machine.{ends_at_end}
use Rattle.csv.specs.Reading.{builder_config, builder_names_headers, builder_trim, default_config, records_from, strip_bom}
use Rattle.csv.specs.declared.parser.State.{State}
use Rattle.load_csv.proofs.RecordFacts.{bytes_are, is_some, strip_bom-le}
use Rattle.load_csv.proofs.records.open.Goals as goal

pub returns-clause-reading : goal.returns-clause-reading
returns-clause-reading c =
    let reader = c.from_reader.ensures in
    let text = c.args.text.now in
    let shorter = strip_bom-le text in
    record {
      ready = inr (inr (reader.has_headers ∙ ap builder_names_headers c.flexible.ensures ∙ ap builder_names_headers c.has_headers.ensures, reader.headers));
      plain = reader.trim ∙ ap builder_trim c.flexible.ensures ∙ ap builder_trim c.has_headers.ensures ∙ c.new.ensures.trim;
      config = reader.config ∙ ap builder_config c.flexible.ensures ∙ ap builder_config c.has_headers.ensures ∙ c.new.ensures.config;
      between = ap ends_at_end reader.state;
      known = is_some _ (strip_bom text) reader.source;
      small = rw (bytes_are _ (strip_bom text) reader.source) (omega (arith, shorter, c.requires));
    }

pub returns-clause-rows : goal.returns-clause-rows
returns-clause-rows c =
    ap₂ (λ (s : State) (xs : List ℕ). records_from default_config (length xs + 1) s xs) c.from_reader.ensures.state (bytes_are _ (strip_bom c.args.text.now) c.from_reader.ensures.source)
