use Rattle.nv_region.specs.StoredLines.{words_before}
use Rattle.nv_region.proofs.keeping.keep_words.Given as goal

abbrev pub ghost-keep_alternate : goal.ghost-keep_alternate
ghost-keep_alternate a = words_before a.rows.now a.kept.now a.words.now
