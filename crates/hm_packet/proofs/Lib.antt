mod TextExamples
