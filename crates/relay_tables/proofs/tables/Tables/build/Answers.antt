use Rattle.relay_tables.proofs.tables.Tables.build.Goals as goal

pub of-requires-clause-lawful : goal.of-requires-clause-lawful
of-requires-clause-lawful c =
    let r = c.requires in
    rw (c.as_slice-entries.ensures, c.as_slice-names.ensures, c.deref.ensures.value) (record { origin = r.origin; entries = r.entries; items = r.items; few_entries = r.few_entries; few_includes = r.few_includes })
