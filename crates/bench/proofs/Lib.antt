mod OneRow
