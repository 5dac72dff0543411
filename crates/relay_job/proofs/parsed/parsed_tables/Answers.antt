use Rattle.relay_job.proofs.TablesBounds.{tables_paths, tables_origin, tables_destinations, tables_limit, tables_fit, tables_includes_fit}
use Rattle.relay_job.proofs.parsed.parsed_tables.Goals as goal

pub returns : goal.returns
returns c = record { paths = tables_paths; origin = tables_origin; destinations = tables_destinations; limits = tables_limit; sizes = tables_fit; includes = tables_includes_fit }
