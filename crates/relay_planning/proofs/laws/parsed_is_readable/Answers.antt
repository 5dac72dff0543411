use Rattle.std.proofs.Common.{arith}
use Rattle.relay_planning.proofs.laws.parsed_is_readable.Goals as goal

pub returns-clause-jobs : goal.returns-clause-jobs
returns-clause-jobs c = λ bytes job most within.
    let size = c.parsed_jobs.ensures.sizes within.0 job within.2 in
    record {
      origin = c.parsed_jobs.ensures.origin within.0 job within.2;
      domains = c.parsed_jobs.ensures.destinations within.0 job within.2;
      paths = c.parsed_jobs.ensures.paths within.0 job within.2;
      few_entries = omega (arith, c.file_counts.ensures.entries job.aliases, size, within.1, most);
      few_includes = omega (arith, size, within.1, most);
      few_mailboxes = omega (arith, c.file_counts.ensures.names job.mailboxes, size, within.1, most);
    }

pub returns-clause-tables : goal.returns-clause-tables
returns-clause-tables c = λ bytes tables most within.
    let size = c.parsed_tables.ensures.sizes within.0 tables within.2 in
    record {
      origin = c.parsed_tables.ensures.origin within.0 tables within.2;
      domains = c.parsed_tables.ensures.destinations within.0 tables within.2;
      paths = c.parsed_tables.ensures.paths within.0 tables within.2;
      few_entries = omega (arith, c.file_counts.ensures.entries tables.aliases, size, within.1, most);
      few_includes = omega (arith, size, within.1, most);
      few_mailboxes = omega (arith, c.file_counts.ensures.names tables.mailboxes, size, within.1, most);
    }

pub returns-clause-job_batches : goal.returns-clause-job_batches
returns-clause-job_batches c = λ bytes job within t. omega (arith, c.parsed_jobs.ensures.limits within.0 job within.2 t)

pub returns-clause-table_batches : goal.returns-clause-table_batches
returns-clause-table_batches c = λ bytes tables within t. omega (arith, c.parsed_tables.ensures.limits within.0 tables within.2 t)
