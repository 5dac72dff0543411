use Rattle.relay_tables.proofs.ParsedFiles.{good_alias_file, good_include_file}
use Rattle.relay_tables.proofs.parsed.parsed_files.Goals as goal

pub returns : goal.returns
returns c = record { aliases = good_alias_file; includes = good_include_file }
